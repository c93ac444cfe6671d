use native.Mathlib.Omega.{arith}
use Rattle.tsv8.proofs.Filling.{types_none, types_more, types_still, types_all}
use Rattle.tsv8.proofs.stores.put_types.Goals as goal

pub loop-k-init : goal.loop-k-init
loop-k-init c = types_none _ _ _

pub loop-k-preserved : goal.loop-k-preserved
loop-k-preserved c = types_more _ _ _ _ _ c.loop-k.invariant _ c.loop-k-test.true c.requires.1 c.number.ensures

pub shape_of-out : goal.shape_of-out
shape_of-out c = types_still _ _ _ _ _ c.loop-k.invariant

pub returns : goal.returns
returns c = types_all _ _ _ _ _ c.loop-k.invariant c.loop-k-test.false
