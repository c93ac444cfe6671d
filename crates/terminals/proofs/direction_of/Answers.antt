-- The definition's decision list, by the tests that led to each return.
use Rattle.prelude.proofs.Picks.{picks}
use Rattle.terminals.specs.Terminals.{direction}
use Rattle.terminals.proofs.direction_of.Goals as goal

pub returns-then-z-lt142 : goal.returns-then-z-lt142
unfolding direction
returns-then-z-lt142 c = search picks

pub returns-then-z-le143 : goal.returns-then-z-le143
unfolding direction
returns-then-z-le143 c = search picks

pub returns-then-z-lt170 : goal.returns-then-z-lt170
unfolding direction
returns-then-z-lt170 c = search picks

pub returns-then-z-le174 : goal.returns-then-z-le174
unfolding direction
returns-then-z-le174 c = search picks

pub returns : goal.returns
unfolding direction
returns c = search picks
