-- Without a digit there is no number; past the whole part the grammar goes on (Grammar).
use mathlib.Core.Path.{sym, ◌∙◌}
use Rattle.tokens.proofs.Grammar.{no_digit}
use Rattle.tokens.proofs.numbers.unsigned.Goals as goal

pub returns-then-not-is_digit : goal.returns-then-not-is_digit
returns-then-not-is_digit c = no_digit _ _ _ c.byte_at-x.ensures (sym c.is_digit.ensures ∙ c.if-not-is_digit.true)

pub past_int-requires : goal.past_int-requires
past_int-requires c = (c.byte_at-x.ensures, sym c.is_digit.ensures ∙ c.if-not-is_digit.false)

pub returns : goal.returns
returns c = c.behind_int.ensures ∙ c.past_int.ensures.same
