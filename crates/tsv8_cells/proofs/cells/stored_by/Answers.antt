-- The test decides the pick of `stored_by`.
use Rattle.prelude.proofs.Picks.{picks}
use Rattle.tsv8_cells.specs.inner.Told.{stored_by}
use Rattle.tsv8_cells.proofs.cells.stored_by.Goals as goal

pub returns-then-kind-eq6 : goal.returns-then-kind-eq6
unfolding stored_by
returns-then-kind-eq6 c = search picks

pub returns : goal.returns
unfolding stored_by
returns c = search picks
