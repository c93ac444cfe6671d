use native.Mathlib.Omega.{arith}
use mathlib.Core.Path.{◌≡◌, refl, sym, ap, ◌∙◌}
use Rattle.escapes.specs.Hex.{hex_val}
use Rattle.escapes.proofs.HexLaws.{begun, again, stopped, full, room}
use Rattle.escapes.proofs.hex.digits_at.Goals as goal

pub loop-count-init : goal.loop-count-init
loop-count-init c = begun _ _

pub returns-in-None : goal.returns-in-None
returns-in-None c =
    let p = stopped _ _ _ _ c.loop-count.invariant c.loop-count-test.true _ refl (omega (arith, c.in-None.ensures, ap hex_val c.byte_at.ensures)) in record { run = p.0; number = p.1; below = p.2 }

pub overflow_mul-value : goal.overflow_mul-value
overflow_mul-value c = omega (arith, room _ _ _ _ c.loop-count.invariant c.loop-count-test.true c.requires)

pub overflow_add-value : goal.overflow_add-value
overflow_add-value c = omega (arith, room _ _ _ _ c.loop-count.invariant c.loop-count-test.true c.requires)

pub loop-count-preserved : goal.loop-count-preserved
loop-count-preserved c =
    again _ _ _ _ c.loop-count.invariant c.loop-count-test.true _ (c.in-Some.ensures.1 ∙ ap hex_val c.byte_at.ensures) c.in-Some.ensures.0

pub returns : goal.returns
returns c =
    let e : c.loop-count.count ≡ c.args.most = omega (arith, c.loop-count.invariant.few) in
    let p = full _ _ _ _ c.loop-count.invariant c.loop-count-test.false in record { run = sym e ∙ p.0; number = p.1; below = p.2 }
