use native.Mathlib.Omega.{arith}
use mathlib.Core.Path.{refl}
use lib.ListN.{length-set}
use Rattle.bytewise.proofs.Fronts.{front_one, onward_then}
use Rattle.std.specs.Prelude.{ℕ, ◌≡◌, length}
use mathlib.Core.Path.{subst}
use Rattle.bytewise.specs.inner.Bytewise.{Onward, Texted}
use Rattle.bytewise.proofs.front.put_one_by_one.Goals as goal

pub loop-at-init : goal.loop-at-init
loop-at-init c = (c.requires.0, refl, λ o f. f)

pub returns-then-odd : goal.returns-then-odd
returns-then-odd c = (c.loop-at.invariant.0, c.loop-at.invariant.2)

pub loop-at-preserved : goal.loop-at-preserved
loop-at-preserved c =
    (omega arith, simp length-set c.loop-at.invariant.1, onward_then _ _ _ _ _ _ _ c.loop-at.invariant.2 (front_one _ _ _ (omega arith) (c.odd.ensures.0 c.if-odd.false)))

pub returns : goal.returns
returns c =
    let e : c.loop-at.at ≡ length c.args.s.now = omega arith in
    (omega arith, subst (λ (k : ℕ). Onward c.args.s.now c.args.from k c.args.out.now c.loop-at.out) e c.loop-at.invariant.2)
