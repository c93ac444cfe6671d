use native.Mathlib.Omega.{arith}
use mathlib.Core.Path.{◌∙◌}
use Rattle.bytewise.proofs.ByteTexts.{texted_none, texted_same, texted_then, texted_length, texted_bound}
use Rattle.bytewise.proofs.rest.put_rest.Goals as goal

pub loop-at-init : goal.loop-at-init
loop-at-init c = (omega arith, omega (arith, c.requires.0), texted_none _ _ _ _)

pub put_past-p-requires : goal.put_past-p-requires
put_past-p-requires c =
    (omega arith, omega (arith, c.requires.0, c.loop-at.invariant.0, c.loop-at.invariant.1, texted_bound _ _ _ _ _ _ _ c.loop-at.invariant.2, texted_length _ _ _ _ _ _ _ c.loop-at.invariant.2))

pub loop-at-preserved-then-any_control : goal.loop-at-preserved-then-any_control
loop-at-preserved-then-any_control c =
    (omega (arith, c.loop-at.invariant.0, c.put_past-p.ensures.0), c.put_past-p.ensures.1, texted_then _ _ _ _ _ _ _ _ _ _ c.loop-at.invariant.0 (omega (arith, c.put_past-p.ensures.0)) c.loop-at.invariant.2 c.put_past-p.ensures.2)

pub put_eight-o-requires : goal.put_eight-o-requires
put_eight-o-requires c =
    (omega (arith, c.loop-at.invariant.1), c.any_control.ensures c.if-any_control.false, omega (arith, c.requires.0, c.loop-at.invariant.0, c.loop-at.invariant.1, texted_bound _ _ _ _ _ _ _ c.loop-at.invariant.2, texted_length _ _ _ _ _ _ _ c.loop-at.invariant.2))

pub loop-at-preserved-then-any_slashed : goal.loop-at-preserved-then-any_slashed
loop-at-preserved-then-any_slashed c =
    (omega (arith, c.loop-at.invariant.0), omega (arith, c.loop-at.invariant.1), texted_then _ _ _ _ _ _ _ _ _ _ c.loop-at.invariant.0 (omega arith) c.loop-at.invariant.2 c.put_eight-o.ensures)

pub copy-requires : goal.copy-requires
copy-requires c =
    (omega (arith, c.loop-at.invariant.1), omega (arith, c.requires.0, c.loop-at.invariant.0, c.loop-at.invariant.1, texted_bound _ _ _ _ _ _ _ c.loop-at.invariant.2, texted_length _ _ _ _ _ _ _ c.loop-at.invariant.2))

pub overflow_add-o : goal.overflow_add-o
overflow_add-o c =
    omega (arith, c.requires.0, c.loop-at.invariant.0, c.loop-at.invariant.1, texted_bound _ _ _ _ _ _ _ c.loop-at.invariant.2, texted_length _ _ _ _ _ _ _ c.loop-at.invariant.2)

pub loop-at-preserved : goal.loop-at-preserved
loop-at-preserved c =
    (omega (arith, c.loop-at.invariant.0), omega (arith, c.loop-at.invariant.1), texted_then _ _ _ _ _ _ _ _ _ _ c.loop-at.invariant.0 (omega arith) c.loop-at.invariant.2 (texted_same _ _ _ _ 8 _ (omega (arith, c.loop-at.invariant.1)) (c.any_slashed.ensures c.if-any_slashed.false (c.any_control.ensures c.if-any_control.false)) c.copy.ensures))

pub put_texts-requires : goal.put_texts-requires
put_texts-requires c =
    (c.loop-at.invariant.1, omega (arith, c.requires.0, c.loop-at.invariant.0, c.loop-at.invariant.1, texted_bound _ _ _ _ _ _ _ c.loop-at.invariant.2, texted_length _ _ _ _ _ _ _ c.loop-at.invariant.2))

pub shape_of-out : goal.shape_of-out
shape_of-out c = c.put_texts.auto.out ∙ texted_length _ _ _ _ _ _ _ c.loop-at.invariant.2

pub returns : goal.returns
returns c = texted_then _ _ _ _ _ _ _ _ _ _ c.loop-at.invariant.0 c.loop-at.invariant.1 c.loop-at.invariant.2 c.put_texts.ensures
