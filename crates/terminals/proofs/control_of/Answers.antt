-- The definition's decision list, by the tests that led to each return.
use Rattle.prelude.proofs.Picks.{picks}
use Rattle.terminals.specs.Terminals.{control_of}
use Rattle.terminals.proofs.control_of.Goals as goal

pub returns-then-x-eq127 : goal.returns-then-x-eq127
unfolding control_of
returns-then-x-eq127 c = search picks

pub returns-then-x-eq194 : goal.returns-then-x-eq194
unfolding control_of
returns-then-x-eq194 c = search (picks, c.second_of.ensures)

pub returns-then-x-eq216 : goal.returns-then-x-eq216
unfolding control_of
returns-then-x-eq216 c = search (picks, c.behind_d8.ensures)

pub returns-then-x-eq226 : goal.returns-then-x-eq226
unfolding control_of
returns-then-x-eq226 c = search (picks, c.behind_e2.ensures)

pub returns : goal.returns
unfolding control_of
returns c = search picks
