-- A line ends at an LF or where the text does (Places).
use Rattle.tsv8_cells.proofs.Places.{over_end, over_lf}
use Rattle.tsv8_cells.proofs.ends.is_end.Goals as goal

pub returns-then-at-text : goal.returns-then-at-text
returns-then-at-text c = over_lf _ _ c.if-at-text.true

pub returns : goal.returns
returns c = over_end _ _ c.if-at-text.false
