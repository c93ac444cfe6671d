-- The definition's decision list, by the tests that led to each return.
use Rattle.prelude.proofs.Picks.{picks}
use Rattle.terminals.specs.Terminals.{inner}
use Rattle.terminals.proofs.inner_after.Goals as goal

pub returns-then-x-quote : goal.returns-then-x-quote
unfolding inner
returns-then-x-quote c = search (picks, c.standing.ensures)

pub returns-then-x-eq92 : goal.returns-then-x-eq92
unfolding inner
returns-then-x-eq92 c = search (picks, c.standing-then-x-eq92.ensures)

pub returns : goal.returns
unfolding inner
returns c = search (picks, c.standing-2.ensures)
