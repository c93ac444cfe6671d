-- Over the digits (Grammar).
use Rattle.tokens.proofs.Grammar.{frac_over, digits_inside}
use Rattle.tokens.proofs.numbers.in_frac.Goals as goal

pub behind_frac-requires : goal.behind_frac-requires
behind_frac-requires c = digits_inside _ _ _ c.digits.ensures c.requires

pub returns : goal.returns
returns c = frac_over _ _ _ _ c.digits.ensures c.behind_frac.ensures
