-- The definition's decision list, by the tests that led to each return.
use Rattle.utf8.specs.Utf8.{high_of}
use Rattle.prelude.proofs.Picks.{picks}
use Rattle.utf8.proofs.chars.high_of.Goals as goal

pub returns-then-k-eq9 : goal.returns-then-k-eq9
unfolding high_of
returns-then-k-eq9 c = search picks

pub returns-then-k-eq12 : goal.returns-then-k-eq12
unfolding high_of
returns-then-k-eq12 c = search picks

pub returns : goal.returns
unfolding high_of
returns c = search picks
