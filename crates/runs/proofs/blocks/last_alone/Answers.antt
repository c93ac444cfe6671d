-- The two blocks hold all that is left before the last byte, so the run reaches it (BlockLaws).
use native.Mathlib.Omega.{arith}
use Rattle.runs.proofs.BlockLaws.{over_two, least_near}
use Rattle.runs.proofs.blocks.last_alone.Goals as goal

pub returns : goal.returns
returns c =
    let both = c.any_odd_beside.ensures c.if-any_odd_beside.false in
    over_two _ _ _ _ c.quote_of-q.ensures _ _ 32 _ (omega arith) (least_near _ _ _ 32 c.least.ensures.2 c.least.ensures.3 (omega arith)) c.least.ensures.0 (omega arith) (omega arith) both.0 both.1
