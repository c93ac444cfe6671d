-- By the test of the byte.
use Rattle.runs.proofs.BlockLaws.{with_next, without_next}
use Rattle.runs.proofs.blocks.behind.Goals as goal

pub returns-then-continues : goal.returns-then-continues
returns-then-continues c = with_next _ _ _ c.continues.ensures c.if-continues.true

pub returns : goal.returns
returns c = without_next _ _ _ c.continues.ensures c.if-continues.false
