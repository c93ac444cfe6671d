-- The table's pairs, one test each.
use borrow.Author.Tests.{eq-eqb, ne_eqb}
use mathlib.Core.Path.{◌∙◌, sym}
use native.Mathlib.Omega.{arith}
use Rattle.prelude.specs.Pick.{pick}
use Rattle.notation.specs.Styles.{style_of}
use Rattle.notation.proofs.LiteralLaws.{quote_ascii}
use Rattle.escapes.specs.Escapes.{lookup}
use Rattle.units.proofs.written.letter_of.Goals as goal

pub returns-then-x-q : goal.returns-then-x-q
unfolding lookup pick
returns-then-x-q c =
    (omega (arith, quote_ascii (style_of c.args.form), c.quote_in-q.ensures), simp (eq-eqb _ _ (c.if-x-q.true ∙ c.quote_in-q.ensures)) c.quote_in-q.ensures)

pub returns-then-x-eq92 : goal.returns-then-x-eq92
unfolding lookup pick
returns-then-x-eq92 c = (omega arith, simp (ne_eqb _ _ (λ z. c.if-x-q.false (z ∙ sym c.quote_in-q.ensures)), eq-eqb _ _ c.if-x-eq92.true))

pub returns-then-x-eq8 : goal.returns-then-x-eq8
unfolding lookup pick
returns-then-x-eq8 c = (omega arith, simp (ne_eqb _ _ (λ z. c.if-x-q.false (z ∙ sym c.quote_in-q.ensures)), ne_eqb _ _ c.if-x-eq92.false, eq-eqb _ _ c.if-x-eq8.true))

pub returns-then-x-eq12 : goal.returns-then-x-eq12
unfolding lookup pick
returns-then-x-eq12 c =
    (omega arith, simp (ne_eqb _ _ (λ z. c.if-x-q.false (z ∙ sym c.quote_in-q.ensures)), ne_eqb _ _ c.if-x-eq92.false, ne_eqb _ _ c.if-x-eq8.false, eq-eqb _ _ c.if-x-eq12.true))

pub returns-then-x-eq10 : goal.returns-then-x-eq10
unfolding lookup pick
returns-then-x-eq10 c =
    (omega arith, simp (ne_eqb _ _ (λ z. c.if-x-q.false (z ∙ sym c.quote_in-q.ensures)), ne_eqb _ _ c.if-x-eq92.false, ne_eqb _ _ c.if-x-eq8.false, ne_eqb _ _ c.if-x-eq12.false, eq-eqb _ _ c.if-x-eq10.true))

pub returns-then-x-eq13 : goal.returns-then-x-eq13
unfolding lookup pick
returns-then-x-eq13 c =
    (omega arith, simp (ne_eqb _ _ (λ z. c.if-x-q.false (z ∙ sym c.quote_in-q.ensures)), ne_eqb _ _ c.if-x-eq92.false, ne_eqb _ _ c.if-x-eq8.false, ne_eqb _ _ c.if-x-eq12.false, ne_eqb _ _ c.if-x-eq10.false, eq-eqb _ _ c.if-x-eq13.true))

pub returns-then-x-eq9 : goal.returns-then-x-eq9
unfolding lookup pick
returns-then-x-eq9 c =
    (omega arith, simp (ne_eqb _ _ (λ z. c.if-x-q.false (z ∙ sym c.quote_in-q.ensures)), ne_eqb _ _ c.if-x-eq92.false, ne_eqb _ _ c.if-x-eq8.false, ne_eqb _ _ c.if-x-eq12.false, ne_eqb _ _ c.if-x-eq10.false, ne_eqb _ _ c.if-x-eq13.false, eq-eqb _ _ c.if-x-eq9.true))

pub returns : goal.returns
unfolding lookup pick
returns c =
    simp (ne_eqb _ _ (λ z. c.if-x-q.false (z ∙ sym c.quote_in-q.ensures)), ne_eqb _ _ c.if-x-eq92.false, ne_eqb _ _ c.if-x-eq8.false, ne_eqb _ _ c.if-x-eq12.false, ne_eqb _ _ c.if-x-eq10.false, ne_eqb _ _ c.if-x-eq13.false, ne_eqb _ _ c.if-x-eq9.false)
