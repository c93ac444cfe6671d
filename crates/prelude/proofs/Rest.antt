-- The rest of a text from a place on: what stands past its end, that a byte that isn't 0 stands inside, and that a scan's turn leaves less.
-- Assumes nothing.
use mathlib.Core.Path.{◌≡◌, refl, ◌∙◌}
use mathlib.Core.List.{List, [], ◌∷◌}
use Prim.Native.Nat.{ℕ, zero, suc, ◌+◌, ◌-◌, ◌≤◌, ◌<◌, zero-le, suc-le-suc}
use native.Mathlib.Omega.{arith}
use borrow.Author.Tests.{ltb-true, ltb-false}
use lib.Dec.{ltb}
use lib.ListN.{length, get_or, drop, get_or-eq_default}
use lib.Seq.{get_or-drop}
use Rattle.prelude.proofs.Cases.{split}

pub beyond : (s : List ℕ) (at k : ℕ) → length s ≤ at + k → get_or (drop at s) k 0 ≡ 0
beyond s at k h = get_or-drop at s k 0 ∙ get_or-eq_default s 0 h

pub get_or_inside : (r : List ℕ) (n : ℕ) → (get_or r n 0 ≡ 0 → ⊥) → n < length r
get_or_inside [] n ne = absurd (ne refl)
get_or_inside (x ∷ r) zero ne = suc-le-suc zero-le
get_or_inside (x ∷ r) (suc n) ne = suc-le-suc (get_or_inside r n ne)

-- a turn by blocks up to mid and then one by one, at least up to an end that `soon` gave, brings less to do
pub advances : (n at mid end next : ℕ) → at < n → at ≤ mid → (mid < n → mid < end) → mid ≤ next → end ≤ next → next ≤ n → n - next < n - at
advances n at mid end next a b c d e f =
    split (ltb mid n) (λ l. omega (arith, c (ltb-true mid n l))) (λ l. omega (arith, ltb-false mid n l))
