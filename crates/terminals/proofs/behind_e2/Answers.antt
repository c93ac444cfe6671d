-- The definition's decision list, by the tests that led to each return.
use Rattle.prelude.proofs.Picks.{picks}
use Rattle.terminals.specs.Terminals.{general}
use Rattle.terminals.proofs.behind_e2.Goals as goal

pub returns-then-y-eq128 : goal.returns-then-y-eq128
unfolding general
returns-then-y-eq128 c = search (picks, c.direction_of.ensures)

pub returns-then-y-eq129 : goal.returns-then-y-eq129
unfolding general
returns-then-y-eq129 c = search (picks, c.isolate_of.ensures)

pub returns : goal.returns
unfolding general
returns c = search picks
