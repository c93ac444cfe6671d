-- A line of spaces and CRs alone is ignored; another is stray (LineTexts).
use Rattle.tsv8.proofs.LineTexts.{gap_skipped, gap_stray}
use Rattle.tsv8.proofs.rows.gap_line.Goals as goal

pub returns-then-is_end : goal.returns-then-is_end
returns-then-is_end c = λ behind ts m n. gap_skipped _ _ c.requires.0 behind ts m c.requires.1 c.requires.2 n _ c.gap-e.ensures _ c.is_end.ensures c.if-is_end.true

pub returns : goal.returns
returns c = λ behind ts m n. gap_stray _ _ c.requires.0 behind ts m c.requires.1 c.requires.2 n _ c.gap-e.ensures _ c.is_end.ensures c.if-is_end.false _ c.at.ensures
