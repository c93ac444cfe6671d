use native.Mathlib.Omega.{arith}
use Rattle.bytewise.proofs.ByteTexts.{texted_start, texted_next, texted_length, texted_bound, texted_end}
use Rattle.bytewise.proofs.rest.put_eight.Goals as goal

pub loop-k-init : goal.loop-k-init
loop-k-init c = (omega arith, texted_start _ _ _ _)

pub put_slashed-o-requires : goal.put_slashed-o-requires
put_slashed-o-requires c =
    (c.requires.1 _ (omega arith), omega (arith, c.requires.2, texted_bound _ _ _ _ _ _ _ c.loop-k.invariant.1, texted_length _ _ _ _ _ _ _ c.loop-k.invariant.1))

pub loop-k-preserved : goal.loop-k-preserved
loop-k-preserved c = (omega arith, texted_next _ _ _ _ _ _ _ _ _ (omega (arith, c.requires.0)) c.loop-k.invariant.1 c.put_slashed-o.ensures)

pub shape_of-out : goal.shape_of-out
shape_of-out c = texted_length _ _ _ _ _ _ _ c.loop-k.invariant.1

pub returns : goal.returns
returns c = texted_end _ _ _ _ _ _ _ _ (omega (arith, c.loop-k.invariant.0)) (omega arith) c.loop-k.invariant.1
