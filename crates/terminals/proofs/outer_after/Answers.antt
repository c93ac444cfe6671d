-- The definition's decision list, by the tests that led to each return.
use Rattle.prelude.proofs.Picks.{picks}
use Rattle.terminals.specs.Terminals.{outer}
use Rattle.terminals.proofs.outer_after.Goals as goal

pub returns-then-x-eq34 : goal.returns-then-x-eq34
unfolding outer
returns-then-x-eq34 c = search (picks, c.standing.ensures)

pub returns-then-x-eq39 : goal.returns-then-x-eq39
unfolding outer
returns-then-x-eq39 c = search (picks, c.standing-then-x-eq39.ensures)

pub returns : goal.returns
unfolding outer
returns c = search (picks, c.standing-2.ensures)
