-- The tests in their order, each by its answer.
use borrow.Author.Tests.{eq-eqb, ne_eqb}
use mathlib.Core.Path.{sym, ◌∙◌}
use Rattle.prelude.specs.Pick.{pick}
use Rattle.upload.specs.Calls.{stop_state}
use Rattle.upload.proofs.Values.{told}
use Rattle.upload.proofs.uploads.stop.Goals as goal

pub returns-then-not-is_fit : goal.returns-then-not-is_fit
unfolding stop_state pick
returns-then-not-is_fit c = rw (sym c.is_fit.ensures ∙ c.if-not-is_fit.true) (told _ _ _ c.without_line.ensures c.number.ensures)

pub returns-then-s-ne0 : goal.returns-then-s-ne0
unfolding stop_state pick
returns-then-s-ne0 c = rw (sym c.is_fit.ensures ∙ c.if-not-is_fit.false, ne_eqb _ 0 c.if-s-ne0.true)

pub returns-then-s : goal.returns-then-s
unfolding stop_state pick
returns-then-s c = rw (sym c.is_fit.ensures ∙ c.if-not-is_fit.false, eq-eqb _ 0 c.if-s-ne0.false, c.if-s.true) (told _ _ _ c.without_line-then-s.ensures c.number-then-s.ensures)

pub returns : goal.returns
unfolding stop_state pick
returns c = rw (sym c.is_fit.ensures ∙ c.if-not-is_fit.false, eq-eqb _ 0 c.if-s-ne0.false, c.if-s.false)
