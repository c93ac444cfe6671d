use mathlib.Core.Path.{refl, sym, ◌∙◌}
use native.Mathlib.Omega.{arith}
use Rattle.tokens.specs.Words.{is_digit}
use Rattle.tokens.proofs.Runs.{one_more, stopped, ended}
use Rattle.tokens.proofs.numbers.digits.Goals as goal

pub loop-at-init : goal.loop-at-init
loop-at-init c = (omega arith, refl)

pub returns-then-not-is_digit : goal.returns-then-not-is_digit
returns-then-not-is_digit c = stopped is_digit c.args.s.now c.args.from c.loop-at.at c.loop-at.invariant.1 (omega arith) (sym c.is_digit.ensures ∙ c.if-not-is_digit.true)

pub loop-at-preserved : goal.loop-at-preserved
loop-at-preserved c =
    (omega arith, one_more is_digit c.args.s.now c.args.from c.loop-at.at c.loop-at.invariant.1 (omega arith) (sym c.is_digit.ensures ∙ c.if-not-is_digit.false))

pub returns : goal.returns
returns c = omega (arith, ended is_digit c.args.s.now c.args.from c.loop-at.at c.loop-at.invariant.1 (omega arith))
