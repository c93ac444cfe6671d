use native.Mathlib.Omega.{arith}
use Rattle.json8_read.proofs.Spreading.{spread_none, next_fits, spread_more, same_table, same_store, spread_all}
use Rattle.json8_read.proofs.spread.spread.Goals as goal

pub loop-i-init : goal.loop-i-init
loop-i-init c = spread_none _ _ _ _ _

pub spread_node-m-requires : goal.spread_node-m-requires
spread_node-m-requires c = (next_fits _ _ _ _ _ _ _ _ _ c.loop-i.invariant c.requires.2 c.loop-i-test.true (omega (arith, c.requires.1, c.loop-i-test.true)))

pub loop-i-preserved : goal.loop-i-preserved
loop-i-preserved c =
    spread_more _ _ _ _ _ _ _ _ _ c.loop-i.invariant c.requires.2 c.loop-i-test.true (omega (arith, c.requires.1, c.loop-i-test.true)) _ _ _ (c.spread_node-m.ensures.count, (c.spread_node-m.ensures.nodes, c.spread_node-m.ensures.bytes))

pub shape_of-table : goal.shape_of-table
shape_of-table c = same_table _ _ _ _ _ _ _ _ _ c.loop-i.invariant

pub shape_of-store : goal.shape_of-store
shape_of-store c = same_store _ _ _ _ _ _ _ _ _ c.loop-i.invariant

pub returns : goal.returns
returns c = let r = spread_all _ _ _ _ _ _ _ _ _ c.loop-i.invariant c.loop-i-test.false in record { count = r.0; nodes = r.1.0; bytes = r.1.1 }
