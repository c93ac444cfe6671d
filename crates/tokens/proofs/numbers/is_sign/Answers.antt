-- Each test decides one pick of `is_sign`.
use Rattle.prelude.proofs.Picks.{picks}
use Rattle.tokens.specs.Numbers.{is_sign}
use Rattle.tokens.proofs.numbers.is_sign.Goals as goal

pub returns-then-x-eq45 : goal.returns-then-x-eq45
unfolding is_sign
returns-then-x-eq45 c = search picks

pub returns : goal.returns
unfolding is_sign
returns c = search picks
