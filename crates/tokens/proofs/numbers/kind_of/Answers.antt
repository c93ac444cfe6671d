-- The token reader's answer, case by case (NumberTexts).
use mathlib.Core.Path.{◌∙◌}
use Rattle.tokens.proofs.NumberTexts.{none_legal, longer, all_of_it}
use Rattle.tokens.proofs.numbers.kind_of.Goals as goal

pub returns-then-found-s : goal.returns-then-found-s
returns-then-found-s c = longer _ _ c.number_at.ensures _ c.in_ok-found.was c.if-found-s.true

pub returns : goal.returns
returns c = all_of_it _ _ c.number_at.ensures _ c.in_ok-found.was c.if-found-s.false

pub returns-in_err-found : goal.returns-in_err-found
returns-in_err-found c = c.from_residual.ensures ∙ none_legal _ _ c.number_at.ensures c.in_err-found.was
