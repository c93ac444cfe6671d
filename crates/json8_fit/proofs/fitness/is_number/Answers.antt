-- Outside the text, or by its legality (Fitting).
use mathlib.Core.Path.{sym, ◌∙◌}
use native.Mathlib.Omega.{arith}
use borrow.Author.Tests.{leb-true}
use Rattle.json8_fit.proofs.Fitting.{fit_outside, fit_legal}
use Rattle.json8_fit.proofs.fitness.is_number.Goals as goal

pub returns-then-not-is_within : goal.returns-then-not-is_within
returns-then-not-is_within c =
    fit_outside c.args.table.now c.args.text.now c.args.i _ _ c.number_in-place.ensures.0 c.number_in-size.ensures.0 _ c.is_within.ensures (c.if-not-is_within.true)

pub overflow_add-place : goal.overflow_add-place
overflow_add-place c = omega (arith, c.number_in-place.ensures.1, c.number_in-size.ensures.1)

pub slice_bounds-is_legal-end : goal.slice_bounds-is_legal-end
slice_bounds-is_legal-end c = leb-true _ _ (sym c.is_within.ensures ∙ c.if-not-is_within.false)

pub returns : goal.returns
returns c =
    fit_legal c.args.table.now c.args.text.now c.args.i _ _ c.number_in-place.ensures.0 c.number_in-size.ensures.0 _ c.is_within.ensures c.requires.1 (c.if-not-is_within.false) c.is_legal.ensures
