-- By the byte that stands here: an e leads on, else the token ends (Grammar).
use Prim.Native.Nat.{◌+◌, ◌≤◌}
use lib.ListN.{length}
use mathlib.Core.Path.{sym, ◌∙◌}
use native.Mathlib.Omega.{arith}
use Rattle.tokens.proofs.Grammar.{frac_e, frac_end, next_inside, e_number}
use Rattle.tokens.proofs.numbers.behind_frac.Goals as goal

pub overflow_add-at : goal.overflow_add-at
overflow_add-at c = let h : c.args.at + 1 ≤ length c.args.s.now = next_inside _ _ _ c.byte_at.ensures (e_number _ (sym c.is_e.ensures ∙ c.if-is_e.true)) in omega arith

pub behind_e-requires : goal.behind_e-requires
behind_e-requires c = next_inside _ _ _ c.byte_at.ensures (e_number _ (sym c.is_e.ensures ∙ c.if-is_e.true))

pub returns-then-is_e : goal.returns-then-is_e
returns-then-is_e c = frac_e _ _ _ _ c.byte_at.ensures (sym c.is_e.ensures ∙ c.if-is_e.true) c.behind_e.ensures

pub returns : goal.returns
returns c = frac_end _ _ _ _ c.byte_at.ensures (sym c.is_e.ensures ∙ c.if-is_e.false) c.finish.ensures
