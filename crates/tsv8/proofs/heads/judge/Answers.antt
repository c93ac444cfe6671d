-- The first line, its names, and what stands behind them (HeadTexts).
use mathlib.Core.Path.{ap, ◌∙◌}
use native.Mathlib.Omega.{arith}
use Rattle.std.specs.Prelude.{Err}
use Rattle.std.proofs.lemmas.Result.{err_from_is_err_and}
use Rattle.tsv8_cells.proofs.Places.{cell_ended}
use Rattle.tsv8.proofs.HeadTexts.{no_first_line, no_head, columns_in, names_stop, names_in, head_told}
use Rattle.tsv8.proofs.heads.judge.Goals as goal

pub returns-then-text-at : goal.returns-then-text-at
returns-then-text-at c = no_first_line _ _ c.line_from-at.ensures c.if-text-at.true _ _ c.at.ensures

pub columns-requires : goal.columns-requires
columns-requires c = let i = cell_ended c.args.text.now _ _ (omega (arith, c.if-text-at.false)) c.end_from-q.ensures in (omega (arith, c.end_from-q.ensures), i.0, i.1)

pub returns-in_default : goal.returns-in_default
returns-in_default c = no_head _ _ c.line_from-at.ensures c.if-text-at.false _ c.end_from-q.ensures c.in_default.ensures _ _ c.at-in_default.ensures

pub judge_row-requires : goal.judge_row-requires
judge_row-requires c =
    let i = cell_ended c.args.text.now _ _ (omega (arith, c.if-text-at.false)) c.end_from-q.ensures in let j = columns_in _ _ c.line_from-at.ensures c.if-text-at.false _ c.end_from-q.ensures _ c.in-Some.ensures in (c.requires.0, i.0, j.1, omega arith, i.1, (c.requires.1 _ j.1).0)

pub overflow_add-row : goal.overflow_add-row
overflow_add-row c =
    omega (arith, c.requires.0, (names_in _ _ c.line_from-at.ensures c.if-text-at.false _ c.end_from-q.ensures _ c.in-Some.ensures _ c.requires.1 _ c.in_ok-row.ensures).0)

pub behind_names-requires : goal.behind_names-requires
behind_names-requires c =
    let j = columns_in _ _ c.line_from-at.ensures c.if-text-at.false _ c.end_from-q.ensures _ c.in-Some.ensures in let i = names_in _ _ c.line_from-at.ensures c.if-text-at.false _ c.end_from-q.ensures _ c.in-Some.ensures _ c.requires.1 _ c.in_ok-row.ensures in (c.requires.0, omega (arith, i.0), j.0, j.1, omega (arith, i.1.0), (c.requires.1 _ j.1).0, (c.requires.1 _ j.1).1)

pub returns-in_err-row : goal.returns-in_err-row
returns-in_err-row c =
    let p = err_from_is_err_and c.from_residual.result c.from_residual.ensures.1 in rw (p.1 ∙ ap Err p.2) (names_stop _ _ c.line_from-at.ensures c.if-text-at.false _ c.end_from-q.ensures _ c.in-Some.ensures _ c.requires.1 _ c.in_err-row.ensures _)

pub returns : goal.returns
returns c =
    head_told _ _ c.line_from-at.ensures c.if-text-at.false _ c.end_from-q.ensures _ c.in-Some.ensures _ c.requires.1 _ c.in_ok-row.ensures _ _ c.behind_names.ensures
