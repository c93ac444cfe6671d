-- A sign leads to the digits, and so does none (Grammar).
use native.Mathlib.Omega.{arith}
use Prim.Native.Nat.{◌+◌, ◌≤◌}
use lib.ListN.{length}
use mathlib.Core.Path.{sym, ◌∙◌}
use Rattle.tokens.proofs.Grammar.{sign_leads, unsigned_leads}
use Rattle.tokens.proofs.numbers.past_sign.Goals as goal

pub overflow_add-result : goal.overflow_add-result
overflow_add-result c = let h : c.args.at + 1 ≤ length c.args.s.now = (sign_leads _ _ _ c.byte_at.ensures (sym c.is_sign.ensures ∙ c.if-is_sign.true)).inside in omega arith

pub returns-then-is_sign : goal.returns-then-is_sign
returns-then-is_sign c = sign_leads _ _ _ c.byte_at.ensures (sym c.is_sign.ensures ∙ c.if-is_sign.true)

pub returns : goal.returns
returns c = unsigned_leads _ _ _ c.byte_at.ensures c.requires (sym c.is_sign.ensures ∙ c.if-is_sign.false)
