-- The tests decide as in `shown_by`.
use mathlib.Core.Path.{sym, ◌∙◌}
use borrow.Author.Tests.{eq-eqb, ne_eqb}
use Rattle.prelude.specs.Pick.{pick}
use Rattle.json8_show.specs.Show.{shown_by}
use Rattle.json8_show.proofs.show.shown_by.Goals as goal

pub returns-then-is_within : goal.returns-then-is_within
unfolding shown_by pick
returns-then-is_within c = rw (eq-eqb _ 5 c.if-kind-eq5.true, sym c.is_within.ensures ∙ c.if-is_within.true)

pub returns-then-kind-eq5 : goal.returns-then-kind-eq5
unfolding shown_by pick
returns-then-kind-eq5 c = rw (eq-eqb _ 5 c.if-kind-eq5.true, sym c.is_within.ensures ∙ c.if-is_within.false)

pub returns-then-is_within-2 : goal.returns-then-is_within-2
unfolding shown_by pick
returns-then-is_within-2 c = rw (ne_eqb _ 5 c.if-kind-eq5.false, eq-eqb _ 6 c.if-kind-eq6.true, sym c.is_within-then-kind-eq6.ensures ∙ c.if-is_within-2.true)

pub returns-then-kind-eq6 : goal.returns-then-kind-eq6
unfolding shown_by pick
returns-then-kind-eq6 c = rw (ne_eqb _ 5 c.if-kind-eq5.false, eq-eqb _ 6 c.if-kind-eq6.true, sym c.is_within-then-kind-eq6.ensures ∙ c.if-is_within-2.false)

pub returns : goal.returns
unfolding shown_by pick
returns c = rw (ne_eqb _ 5 c.if-kind-eq5.false, ne_eqb _ 6 c.if-kind-eq6.false)
