-- The end found, less the start, is the token's length (Grammar).
use mathlib.Core.Path.{◌∙◌}
use Rattle.tokens.proofs.Grammar.{legal_at, legal_inside, malformed_at}
use Rattle.tokens.proofs.numbers.number_at.Goals as goal

pub overflow_sub-result : goal.overflow_sub-result
overflow_sub-result c = legal_inside _ _ _ _ _ c.signed.ensures c.in_ok-found.was

pub returns : goal.returns
returns c = legal_at _ _ _ _ _ c.signed.ensures c.in_ok-found.was

pub returns-in_err-found : goal.returns-in_err-found
returns-in_err-found c = c.from_residual.ensures ∙ malformed_at _ _ _ c.signed.ensures c.in_err-found.was
