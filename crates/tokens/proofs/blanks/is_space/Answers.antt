-- Each test decides one pick of `is_space`.
use Rattle.prelude.proofs.Picks.{picks}
use Rattle.tokens.specs.Blanks.{is_space}
use Rattle.tokens.proofs.blanks.is_space.Goals as goal

pub returns-then-x-eq32 : goal.returns-then-x-eq32
unfolding is_space
returns-then-x-eq32 c = search picks

pub returns-then-x-eq10 : goal.returns-then-x-eq10
unfolding is_space
returns-then-x-eq10 c = search picks

pub returns-then-x-eq13 : goal.returns-then-x-eq13
unfolding is_space
returns-then-x-eq13 c = search picks

pub returns : goal.returns
unfolding is_space
returns c = search picks
