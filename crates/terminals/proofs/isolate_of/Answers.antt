-- The definition's decision list, by the tests that led to each return.
use Rattle.prelude.proofs.Picks.{picks}
use Rattle.terminals.specs.Terminals.{isolate}
use Rattle.terminals.proofs.isolate_of.Goals as goal

pub returns-then-z-lt166 : goal.returns-then-z-lt166
unfolding isolate
returns-then-z-lt166 c = search picks

pub returns-then-z-le169 : goal.returns-then-z-le169
unfolding isolate
returns-then-z-le169 c = search picks

pub returns : goal.returns
unfolding isolate
returns c = search picks
