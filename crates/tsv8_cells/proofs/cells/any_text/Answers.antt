-- The opening mark decides which of the two a text is (CellTexts).
use mathlib.Core.Path.{sym, ap, subst, ◌∙◌}
use Rattle.std.specs.Prelude.{Err}
use Rattle.std.proofs.lemmas.Result.{err_from_is_err_and}
use Rattle.tsv8_cells.specs.inner.Texts.{IsText}
use Rattle.tsv8_cells.proofs.CellTexts.{mark_opens, bare_fine, bare_faulty}
use Rattle.tsv8_cells.proofs.cells.any_text.Goals as goal

pub quoted_text-requires : goal.quoted_text-requires
quoted_text-requires c = (c.requires, mark_opens _ _ c.in-Some.ensures)

pub returns-in_err-check_in-in-None : goal.returns-in_err-check_in-in-None
returns-in_err-check_in-in-None c =
    let p = err_from_is_err_and c.from_residual.result c.from_residual.ensures.1 in
    subst (IsText c.args.w.now) (sym (p.1 ∙ ap Err p.2)) (bare_faulty _ c.requires c.in-None.ensures _ c.in_err-check_in-in-None.ensures)

pub returns-in_ok-check_in-in-None : goal.returns-in_ok-check_in-in-None
returns-in_ok-check_in-in-None c = bare_fine _ c.requires c.in-None.ensures _ c.in_ok-check_in-in-None.ensures
