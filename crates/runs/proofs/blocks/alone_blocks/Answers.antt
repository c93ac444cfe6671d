use native.Mathlib.Omega.{arith}
use Rattle.runs.proofs.LiteralRuns.{here}
use Rattle.runs.proofs.BlockLaws.{over_block}
use Rattle.runs.proofs.blocks.alone_blocks.Goals as goal

pub loop-at-init : goal.loop-at-init
loop-at-init c = here _ _ _ c.requires.0

pub loop-at-preserved : goal.loop-at-preserved
loop-at-preserved c = over_block _ _ _ _ c.quote_of.ensures _ _ c.loop-at.invariant (omega arith) (c.any_odd.ensures.0 c.if-any_odd.false)
