-- What the judge of strings tells, and whether more stands behind the closing quote (CellTexts).
use mathlib.Core.Path.{sym, ap, subst, ◌∙◌}
use native.Mathlib.Omega.{arith}
use Rattle.std.specs.Prelude.{Err}
use Rattle.std.proofs.lemmas.Result.{err_from_is_err_and}
use Rattle.tsv8_cells.specs.inner.Texts.{IsText}
use Rattle.tsv8_cells.proofs.CellTexts.{judged_inside, judged_plain_more, judged_plain_whole, judged_slashed_more, judged_slashed_whole, judged_bad}
use Rattle.tsv8_cells.proofs.cells.quoted_text.Goals as goal

pub overflow_add-e : goal.overflow_add-e
overflow_add-e c = record { fits = omega (arith, judged_inside _ c.requires.0 _ _ _ c.in_ok-k.ensures c.in-Plain.is) }

pub returns-then-e-w : goal.returns-then-e-w
returns-then-e-w c = judged_plain_more _ c.requires.0 _ _ _ c.in_ok-k.ensures c.in-Plain.is _ c.at.ensures c.if-e-w.true

pub returns-then-end-w : goal.returns-then-end-w
returns-then-end-w c = judged_slashed_more _ c.requires.0 _ _ _ c.in_ok-k.ensures c.in-Slashed.is _ c.at-then-end-w.ensures c.if-end-w.true

pub returns-else-e-w : goal.returns-else-e-w
returns-else-e-w c = judged_plain_whole _ c.requires.0 _ _ _ c.in_ok-k.ensures c.in-Plain.is c.if-e-w.false

pub returns-else-end-w : goal.returns-else-end-w
returns-else-end-w c = judged_slashed_whole _ c.requires.0 _ _ _ c.in_ok-k.ensures c.in-Slashed.is c.if-end-w.false

pub returns-in_err-k : goal.returns-in_err-k
returns-in_err-k c =
    let p = err_from_is_err_and c.from_residual.result c.from_residual.ensures.1 in
    subst (IsText c.args.w.now) (sym (p.1 ∙ ap Err p.2)) (judged_bad _ c.requires.0 _ c.requires.1 c.in_err-k.ensures)
