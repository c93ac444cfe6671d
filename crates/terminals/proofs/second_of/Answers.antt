-- The definition's decision list, by the tests that led to each return.
use Rattle.prelude.proofs.Picks.{picks}
use Rattle.terminals.specs.Terminals.{second}
use Rattle.terminals.proofs.second_of.Goals as goal

pub returns-then-y-lt128 : goal.returns-then-y-lt128
unfolding second
returns-then-y-lt128 c = search picks

pub returns-then-y-le159 : goal.returns-then-y-le159
unfolding second
returns-then-y-le159 c = search picks

pub returns : goal.returns
unfolding second
returns c = search picks
