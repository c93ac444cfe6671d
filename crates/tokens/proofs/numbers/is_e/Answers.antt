-- Each test decides one pick of `is_e`.
use Rattle.prelude.proofs.Picks.{picks}
use Rattle.tokens.specs.Numbers.{is_e}
use Rattle.tokens.proofs.numbers.is_e.Goals as goal

pub returns-then-x-eq101 : goal.returns-then-x-eq101
unfolding is_e
returns-then-x-eq101 c = search picks

pub returns : goal.returns
unfolding is_e
returns c = search picks
