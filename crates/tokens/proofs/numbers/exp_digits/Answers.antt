-- By the byte that stands here: a digit leads on, anything else fails (Grammar).
use Prim.Native.Nat.{◌+◌, ◌≤◌}
use lib.ListN.{length}
use Rattle.std.specs.Prelude.{None}
use mathlib.Core.Path.{sym, ◌∙◌}
use native.Mathlib.Omega.{arith}
use Rattle.tokens.proofs.Grammar.{exp_digit, exp_none, next_inside, digit_number}
use Rattle.tokens.proofs.numbers.exp_digits.Goals as goal

pub overflow_add-at : goal.overflow_add-at
overflow_add-at c =
    let h : c.args.at + 1 ≤ length c.args.s.now = next_inside _ _ _ c.byte_at.ensures (digit_number _ (sym c.is_digit.ensures ∙ c.if-is_digit.true)) in omega arith

pub in_exp-requires : goal.in_exp-requires
in_exp-requires c = next_inside _ _ _ c.byte_at.ensures (digit_number _ (sym c.is_digit.ensures ∙ c.if-is_digit.true))

pub returns-then-is_digit : goal.returns-then-is_digit
returns-then-is_digit c = exp_digit _ _ _ _ c.byte_at.ensures (sym c.is_digit.ensures ∙ c.if-is_digit.true) c.in_exp.ensures

pub returns : goal.returns
returns c = exp_none _ _ _ None c.byte_at.ensures (sym c.is_digit.ensures ∙ c.if-is_digit.false)
