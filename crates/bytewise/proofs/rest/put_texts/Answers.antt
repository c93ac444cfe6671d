use native.Mathlib.Omega.{arith}
use Rattle.bytewise.proofs.ByteTexts.{texted_none, texted_one, texted_then, texted_length, texted_bound, texted_end}
use Rattle.bytewise.proofs.rest.put_texts.Goals as goal

pub loop-at-init : goal.loop-at-init
loop-at-init c = (omega arith, omega (arith, c.requires.0), texted_none _ _ _ _)

pub put_text-o-requires : goal.put_text-o-requires
put_text-o-requires c = (omega (arith, c.requires.0, texted_bound _ _ _ _ _ _ _ c.loop-at.invariant.2, texted_length _ _ _ _ _ _ _ c.loop-at.invariant.2))

pub loop-at-preserved : goal.loop-at-preserved
loop-at-preserved c =
    (omega arith, omega arith, texted_then _ _ _ _ _ _ _ _ _ _ c.loop-at.invariant.0 (omega arith) c.loop-at.invariant.2 (texted_one _ _ _ _ _ _ (omega (arith, c.requires.0)) c.put_text-o.ensures))

pub shape_of-out : goal.shape_of-out
shape_of-out c = texted_length _ _ _ _ _ _ _ c.loop-at.invariant.2

pub returns : goal.returns
returns c = texted_end _ _ _ _ _ _ _ _ c.loop-at.invariant.1 (omega arith) c.loop-at.invariant.2
