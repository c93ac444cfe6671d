-- The definition's decision list, by the tests that led to each return.
use Rattle.utf8.specs.Utf8.{low_of}
use Rattle.prelude.proofs.Picks.{picks}
use Rattle.utf8.proofs.chars.low_of.Goals as goal

pub returns-then-k-eq8 : goal.returns-then-k-eq8
unfolding low_of
returns-then-k-eq8 c = search picks

pub returns-then-k-eq11 : goal.returns-then-k-eq11
unfolding low_of
returns-then-k-eq11 c = search picks

pub returns : goal.returns
unfolding low_of
returns c = search picks
