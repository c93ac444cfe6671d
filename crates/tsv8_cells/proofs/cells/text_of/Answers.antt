-- Plain bytes stand bare (CellTexts).
use Rattle.tsv8_cells.proofs.CellTexts.{plain_text}
use Rattle.tsv8_cells.proofs.cells.text_of.Goals as goal

pub returns-then-plain : goal.returns-then-plain
returns-then-plain c = plain_text _ c.requires.0 (c.requires.1 c.if-plain.true)
