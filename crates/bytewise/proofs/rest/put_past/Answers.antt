use native.Mathlib.Omega.{arith}
use mathlib.Core.Path.{◌∙◌}
use Rattle.bytewise.proofs.ByteTexts.{is_control, no_control, texted_none, texted_one, texted_then, texted_length, texted_bound}
use Rattle.std.specs.Prelude.{ℕ, ◌≡◌, length}
use mathlib.Core.Path.{subst}
use Rattle.bytewise.specs.inner.Bytewise.{Onward, Texted}
use Rattle.bytewise.proofs.rest.put_past.Goals as goal

pub loop-at-init : goal.loop-at-init
loop-at-init c = (omega arith, omega (arith, c.requires.0), texted_none _ _ _ _)

pub put_control-e-requires : goal.put_control-e-requires
put_control-e-requires c =
    (is_control _ _ c.class.ensures c.if-class-eq1.true, omega (arith, c.requires.0, texted_bound _ _ _ _ _ _ _ c.loop-at.invariant.2, texted_length _ _ _ _ _ _ _ c.loop-at.invariant.2))

pub shape_of-out-then-class-eq1 : goal.shape_of-out-then-class-eq1
shape_of-out-then-class-eq1 c = c.put_control-e.auto.out ∙ texted_length _ _ _ _ _ _ _ c.loop-at.invariant.2

pub returns-then-class-eq1 : goal.returns-then-class-eq1
returns-then-class-eq1 c =
    (omega (arith, c.loop-at.invariant.0), omega arith, texted_then _ _ _ _ _ _ _ _ _ _ c.loop-at.invariant.0 (omega arith) c.loop-at.invariant.2 (texted_one _ _ _ _ _ _ (omega arith) c.put_control-e.ensures))

pub put_slashed-o-requires : goal.put_slashed-o-requires
put_slashed-o-requires c =
    (no_control _ _ c.class.ensures c.if-class-eq1.false, omega (arith, c.requires.0, texted_bound _ _ _ _ _ _ _ c.loop-at.invariant.2, texted_length _ _ _ _ _ _ _ c.loop-at.invariant.2))

pub loop-at-preserved : goal.loop-at-preserved
loop-at-preserved c =
    (omega arith, omega arith, texted_then _ _ _ _ _ _ _ _ _ _ c.loop-at.invariant.0 (omega arith) c.loop-at.invariant.2 (texted_one _ _ _ _ _ _ (omega arith) c.put_slashed-o.ensures))

pub shape_of-out : goal.shape_of-out
shape_of-out c = texted_length _ _ _ _ _ _ _ c.loop-at.invariant.2

pub returns : goal.returns
returns c =
    let e : c.loop-at.at ≡ length c.args.s.now = omega arith in
    (c.requires.0, omega arith, subst (λ (k : ℕ). Texted c.args.s.now c.args.from k c.args.start c.args.out.now c.loop-at.o c.loop-at.out) e c.loop-at.invariant.2)
