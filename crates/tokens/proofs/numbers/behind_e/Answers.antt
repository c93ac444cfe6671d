-- Past the sign, the digits.
use mathlib.Core.Path.{◌∙◌}
use Rattle.tokens.proofs.numbers.behind_e.Goals as goal

pub returns : goal.returns
returns c = c.exp_digits.ensures ∙ c.past_sign.ensures.same
