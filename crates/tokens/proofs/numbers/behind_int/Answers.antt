-- By the byte that stands here: a point or an e leads on, else the token ends (Grammar).
use Prim.Native.Nat.{◌+◌, ◌≤◌}
use lib.ListN.{length}
use Rattle.std.specs.Prelude.{None}
use mathlib.Core.Path.{sym, ◌∙◌}
use native.Mathlib.Omega.{arith}
use Rattle.tokens.proofs.Grammar.{int_point, int_e, int_end, point_inside, next_inside, e_number}
use Rattle.tokens.proofs.numbers.behind_int.Goals as goal

pub overflow_add-at : goal.overflow_add-at
overflow_add-at c = let h : c.args.at + 1 ≤ length c.args.s.now = point_inside _ _ _ None c.byte_at-x.ensures c.if-x-eq46.true in omega arith

pub behind_point-requires : goal.behind_point-requires
behind_point-requires c = point_inside _ _ _ None c.byte_at-x.ensures c.if-x-eq46.true

pub returns-then-x-eq46 : goal.returns-then-x-eq46
returns-then-x-eq46 c = int_point _ _ _ _ c.byte_at-x.ensures c.if-x-eq46.true c.behind_point.ensures

pub overflow_add-at-then-is_e : goal.overflow_add-at-then-is_e
overflow_add-at-then-is_e c = let h : c.args.at + 1 ≤ length c.args.s.now = next_inside _ _ _ c.byte_at-x.ensures (e_number _ (sym c.is_e.ensures ∙ c.if-is_e.true)) in omega arith

pub behind_e-requires : goal.behind_e-requires
behind_e-requires c = next_inside _ _ _ c.byte_at-x.ensures (e_number _ (sym c.is_e.ensures ∙ c.if-is_e.true))

pub returns-then-is_e : goal.returns-then-is_e
returns-then-is_e c = int_e _ _ _ _ c.byte_at-x.ensures c.if-x-eq46.false (sym c.is_e.ensures ∙ c.if-is_e.true) c.behind_e.ensures

pub returns : goal.returns
returns c = int_end _ _ _ _ c.byte_at-x.ensures c.if-x-eq46.false (sym c.is_e.ensures ∙ c.if-is_e.false) c.finish.ensures
