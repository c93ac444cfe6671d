-- Each test decides one pick of `start_of` (First).
use mathlib.Core.Path.{sym, ◌∙◌}
use Rattle.tokens.proofs.First.{start_end, start_string, start_word, start_digit, start_minus, start_list, start_dict, start_nothing}
use Rattle.tokens.proofs.starts.start_at.Goals as goal

pub returns-then-s-at : goal.returns-then-s-at
returns-then-s-at c = start_end _ _ c.if-s-at.true

pub returns-then-opens : goal.returns-then-opens
returns-then-opens c = start_string _ _ c.if-s-at.false (sym c.opens.ensures ∙ c.if-opens.true)

pub returns-then-is_letter : goal.returns-then-is_letter
returns-then-is_letter c = start_word _ _ c.if-s-at.false (sym c.opens.ensures ∙ c.if-opens.false) (sym c.is_letter.ensures ∙ c.if-is_letter.true)

pub returns-then-is_digit : goal.returns-then-is_digit
returns-then-is_digit c =
    start_digit _ _ c.if-s-at.false (sym c.opens.ensures ∙ c.if-opens.false) (sym c.is_letter.ensures ∙ c.if-is_letter.false) (sym c.is_digit.ensures ∙ c.if-is_digit.true)

pub returns-then-x-eq45 : goal.returns-then-x-eq45
returns-then-x-eq45 c =
    start_minus _ _ c.if-s-at.false (sym c.opens.ensures ∙ c.if-opens.false) (sym c.is_letter.ensures ∙ c.if-is_letter.false) (sym c.is_digit.ensures ∙ c.if-is_digit.false) c.if-x-eq45.true

pub returns-then-x-eq91 : goal.returns-then-x-eq91
returns-then-x-eq91 c =
    start_list _ _ c.if-s-at.false (sym c.opens.ensures ∙ c.if-opens.false) (sym c.is_letter.ensures ∙ c.if-is_letter.false) (sym c.is_digit.ensures ∙ c.if-is_digit.false) c.if-x-eq45.false c.if-x-eq91.true

pub returns-then-x-eq123 : goal.returns-then-x-eq123
returns-then-x-eq123 c =
    start_dict _ _ c.if-s-at.false (sym c.opens.ensures ∙ c.if-opens.false) (sym c.is_letter.ensures ∙ c.if-is_letter.false) (sym c.is_digit.ensures ∙ c.if-is_digit.false) c.if-x-eq45.false c.if-x-eq91.false c.if-x-eq123.true

pub returns : goal.returns
returns c =
    start_nothing _ _ c.if-s-at.false (sym c.opens.ensures ∙ c.if-opens.false) (sym c.is_letter.ensures ∙ c.if-is_letter.false) (sym c.is_digit.ensures ∙ c.if-is_digit.false) c.if-x-eq45.false c.if-x-eq91.false c.if-x-eq123.false
