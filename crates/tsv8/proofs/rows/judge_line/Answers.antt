-- The first byte decides which of the three a line is (LineTexts).
use mathlib.Core.Path.{ap, ◌∙◌}
use native.Mathlib.Omega.{arith}
use Rattle.std.specs.Prelude.{Err}
use Rattle.std.proofs.lemmas.Result.{err_from_is_err_and}
use Rattle.tsv8.proofs.RowTexts.{types_long}
use Rattle.tsv8_cells.proofs.Places.{tab_starts}
use Rattle.tsv8.proofs.LineTexts.{row_line, row_stop}
use Rattle.tsv8.proofs.rows.judge_line.Goals as goal

pub judge_row-requires : goal.judge_row-requires
judge_row-requires c = (c.requires.0, omega arith, c.requires.2, c.requires.3, tab_starts _ _ c.requires.1 c.if-x-eq9.true, c.requires.4)

pub returns-then-x-eq9 : goal.returns-then-x-eq9
returns-then-x-eq9 c = row_line _ _ c.requires.1 _ _ _ c.if-x-eq9.true _ _ c.in_ok-row.ensures

pub returns-in_err-row : goal.returns-in_err-row
returns-in_err-row c =
    let p = err_from_is_err_and c.from_residual.result c.from_residual.ensures.1 in rw (p.1 ∙ ap Err p.2) (row_stop _ _ c.requires.1 _ _ _ c.if-x-eq9.true _ _ c.in_err-row.ensures)

pub returns-then-x-eq33 : goal.returns-then-x-eq33
returns-then-x-eq33 c = c.note.ensures _ _ (types_long _ _ c.requires.4)

pub returns : goal.returns
returns c = c.gap_line.ensures _ _ _ _
