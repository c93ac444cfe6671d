use native.Mathlib.Omega.{arith}
use Rattle.json8_write.proofs.Roominess.{begun, summed, summed_all}
use Rattle.json8_write.proofs.ample.room_of.Goals as goal

pub loop-i-init : goal.loop-i-init
loop-i-init c = begun c.args.table.now c.args.n

pub loop-i-preserved : goal.loop-i-preserved
loop-i-preserved c = summed c.args.table.now _ _ _ c.loop-i.invariant c.requires.1 c.loop-i-test.true c.bytes_held.ensures.0 c.bytes_held.ensures.1

pub returns : goal.returns
returns c = summed_all c.args.table.now _ _ _ c.loop-i.invariant c.loop-i-test.false
