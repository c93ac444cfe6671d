-- A minus leads to the whole part, and so does none (Grammar).
use native.Mathlib.Omega.{arith}
use Prim.Native.Nat.{◌+◌, ◌≤◌}
use lib.ListN.{length}
use Rattle.tokens.proofs.Grammar.{minus_leads, plain_leads}
use Rattle.tokens.proofs.numbers.past_minus.Goals as goal

pub overflow_add-result : goal.overflow_add-result
overflow_add-result c = let h : c.args.at + 1 ≤ length c.args.s.now = (minus_leads _ _ _ c.byte_at.ensures c.if-byte_at-eq45.true).inside in omega arith

pub returns-then-byte_at-eq45 : goal.returns-then-byte_at-eq45
returns-then-byte_at-eq45 c = minus_leads _ _ _ c.byte_at.ensures c.if-byte_at-eq45.true

pub returns : goal.returns
returns c = plain_leads _ _ _ c.byte_at.ensures c.requires c.if-byte_at-eq45.false
