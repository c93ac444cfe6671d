-- Past the minus, the rest.
use mathlib.Core.Path.{◌∙◌}
use Rattle.tokens.proofs.numbers.signed.Goals as goal

pub returns : goal.returns
returns c = c.unsigned.ensures ∙ c.past_minus.ensures.same
