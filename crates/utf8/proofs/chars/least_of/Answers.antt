-- The definition's decision list, by the tests that led to each return.
use Rattle.utf8.specs.Utf8.{least_of}
use Rattle.prelude.proofs.Picks.{picks}
use Rattle.utf8.proofs.chars.least_of.Goals as goal

pub returns-then-a-lt128 : goal.returns-then-a-lt128
unfolding least_of
returns-then-a-lt128 c = search picks

pub returns-then-a-lt224 : goal.returns-then-a-lt224
unfolding least_of
returns-then-a-lt224 c = search picks

pub returns-then-a-lt240 : goal.returns-then-a-lt240
unfolding least_of
returns-then-a-lt240 c = search picks

pub returns : goal.returns
unfolding least_of
returns c = search picks
