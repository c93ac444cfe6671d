-- Over the digits (Grammar).
use Rattle.tokens.proofs.Grammar.{exp_over}
use Rattle.tokens.proofs.numbers.in_exp.Goals as goal

pub returns : goal.returns
returns c = exp_over _ _ _ _ c.digits.ensures c.finish.ensures
