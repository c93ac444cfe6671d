-- By the tests of the two bytes (ThreeBytes).
use Rattle.runs.proofs.ThreeBytes.{begun, not_begun}
use Rattle.runs.proofs.threes.begins.Goals as goal

pub returns-then-continues : goal.returns-then-continues
returns-then-continues c = not_begun _ _ _ c.continues.ensures c.if-continues.true

pub returns : goal.returns
returns c = begun _ _ _ c.continues.ensures _ c.if-continues.false c.continues-2.ensures
