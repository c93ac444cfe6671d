-- The run is empty here, or goes on (Grammar).
use mathlib.Core.Path.{sym, ◌∙◌}
use Rattle.tokens.proofs.Grammar.{too_long_lem, whole}
use Rattle.tokens.proofs.numbers.finish.Goals as goal

pub returns-then-is_number : goal.returns-then-is_number
returns-then-is_number c = too_long_lem _ _ _ c.byte_at.ensures _ (sym c.is_number.ensures ∙ c.if-is_number.true)

pub returns : goal.returns
returns c = whole _ _ _ c.byte_at.ensures _ c.requires (sym c.is_number.ensures ∙ c.if-is_number.false)
