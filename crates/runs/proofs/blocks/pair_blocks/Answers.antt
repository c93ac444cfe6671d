use native.Mathlib.Omega.{arith}
use Rattle.runs.proofs.LiteralRuns.{here}
use Rattle.runs.proofs.BlockLaws.{over_pairs}
use Rattle.runs.proofs.blocks.pair_blocks.Goals as goal

pub loop-at-init : goal.loop-at-init
loop-at-init c = here _ _ _ c.requires

pub loop-at-preserved : goal.loop-at-preserved
loop-at-preserved c =
    over_pairs _ _ _ _ c.quote_of.ensures _ _ _ c.loop-at.invariant (omega arith) c.continues.ensures c.if-continues.false (c.any_odd_pair.ensures c.if-any_odd_pair.false) c.behind-at.ensures
