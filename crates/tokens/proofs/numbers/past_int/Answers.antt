-- A zero is the whole part, and another digit goes on over those that follow (Grammar).
use native.Mathlib.Omega.{arith}
use Prim.Native.Nat.{◌+◌, ◌≤◌}
use lib.ListN.{length}
use Rattle.tokens.proofs.Grammar.{zero_leads, digits_lead, next_inside, digit_number}
use Rattle.tokens.proofs.numbers.past_int.Goals as goal

pub overflow_add-result : goal.overflow_add-result
overflow_add-result c = let h : c.args.at + 1 ≤ length c.args.s.now = (zero_leads _ _ _ c.requires.0 c.if-x-eq48.true).inside in omega arith

pub returns-then-x-eq48 : goal.returns-then-x-eq48
returns-then-x-eq48 c = zero_leads _ _ _ c.requires.0 c.if-x-eq48.true

pub overflow_add-at : goal.overflow_add-at
overflow_add-at c = let h : c.args.at + 1 ≤ length c.args.s.now = next_inside _ _ _ c.requires.0 (digit_number _ c.requires.1) in omega arith

pub digits-requires : goal.digits-requires
digits-requires c = next_inside _ _ _ c.requires.0 (digit_number _ c.requires.1)

pub returns : goal.returns
returns c = digits_lead _ _ _ c.requires.0 c.if-x-eq48.false c.requires.1 _ c.digits.ensures
