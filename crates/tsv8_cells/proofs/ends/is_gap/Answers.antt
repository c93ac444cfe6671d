-- Each test decides one pick of `is_gap`.
use Rattle.prelude.proofs.Picks.{picks}
use Rattle.tsv8_cells.specs.Parts.{is_gap}
use Rattle.tsv8_cells.proofs.ends.is_gap.Goals as goal

pub returns-then-x-eq32 : goal.returns-then-x-eq32
unfolding is_gap
returns-then-x-eq32 c = search picks

pub returns : goal.returns
unfolding is_gap
returns c = search picks
