-- Letter by letter, and no word goes on behind the last (Shorts).
use mathlib.Core.Path.{sym, ap, ◌∙◌}
use Rattle.tokens.specs.Words.{is_word}
use mathlib.Core.Bool.{true, false}
use mathlib.Core.Path.{◌≡◌}
use borrow.Author.Tests.{not-true}
use Rattle.prelude.proofs.Cases.{never}
use Rattle.tokens.proofs.words.spells.Goals as goal

pub returns-then-byte_at-a : goal.returns-then-byte_at-a
returns-then-byte_at-a c = λ e. never (let z : false ≡ true = e in cc)

pub returns-then-byte_at-b : goal.returns-then-byte_at-b
returns-then-byte_at-b c = λ e. never (let z : false ≡ true = e in cc)

pub returns-then-byte_at-c : goal.returns-then-byte_at-c
returns-then-byte_at-c c = λ e. never (let z : false ≡ true = e in cc)

pub returns : goal.returns
returns c =
    λ e. record { first = sym c.byte_at.ensures ∙ c.if-byte_at-a.false; second = sym c.byte_at-2.ensures ∙ c.if-byte_at-b.false; third = sym c.byte_at-3.ensures ∙ c.if-byte_at-c.false; over = ap is_word (sym c.byte_at-4.ensures) ∙ sym c.is_word.ensures ∙ not-true _ e }
