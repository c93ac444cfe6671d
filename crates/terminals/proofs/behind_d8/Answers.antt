-- The definition's decision list, by the tests that led to each return.
use Rattle.prelude.proofs.Picks.{picks}
use Rattle.terminals.specs.Terminals.{arabic}
use Rattle.terminals.proofs.behind_d8.Goals as goal

pub returns-then-y-eq156 : goal.returns-then-y-eq156
unfolding arabic
returns-then-y-eq156 c = search picks

pub returns : goal.returns
unfolding arabic
returns c = search picks
