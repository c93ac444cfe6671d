-- Digits are counted one by one: what is counted, and then the rest of the digits, is the whole; each turn moves one digit over.
-- Assumes nothing.
use Prim.Native.Nat.{ℕ, zero, suc, ◌+◌, ◌-◌, ◌*◌, ◌^◌, ◌≤◌, ◌<◌, zero-le, suc-le-suc}
use mathlib.Core.List.{List, [], ◌∷◌}
use mathlib.Core.Path.{◌≡◌, refl, sym, ap, ◌∙◌}
use native.Mathlib.Omega.{arith}
use native.Mathlib.Nat.{zero-add, add-zero, pow-suc, pow-le-pow_right, zero-lt-suc, lt_of_lt_of_le}
use native.Mathlib.Numerals.{add-one}
use borrow.Author.Tests.{lt-ltb, le-ltb}
use lib.Dec.{ltb}
use lib.ListN.{length, get_or, drop}
use lib.Seq.{get_or-drop, drop-drop}
use Rattle.prelude.specs.Pick.{pick}
use Rattle.prelude.proofs.Cases.{split}
use Rattle.prelude.proofs.Picks.{pick_true, pick_false}
use Rattle.escapes.specs.Hex.{hex_val, hex_digits, hex_from, hex_run, hex_number}

-- past the end stands 0, which is no digit
zero_hex : hex_val 0 ≡ 16
unfolding hex_val pick
zero_hex = refl

hex_more : (k : ℕ) (r : List ℕ) → hex_val (get_or r 0 0) < 16 → hex_digits (suc k) r ≡ get_or r 0 0 ∷ hex_digits k (drop 1 r)
unfolding hex_digits
hex_more k [] h = absurd (let f : ⊥ = omega (arith, zero_hex) in f)
hex_more k (x ∷ r) h = pick_true _ _ _ (lt-ltb _ _ h)

hex_stop : (k : ℕ) (r : List ℕ) → 16 ≤ hex_val (get_or r 0 0) → hex_digits (suc k) r ≡ []
unfolding hex_digits
hex_stop k [] h = refl
hex_stop k (x ∷ r) h = pick_false _ _ _ (le-ltb _ _ h)

hex_none : (r : List ℕ) → hex_digits 0 r ≡ []
unfolding hex_digits
hex_none r = refl

from_none : (v : ℕ) → hex_from v [] ≡ v
unfolding hex_from
from_none v = refl

from_more : (v c : ℕ) (r : List ℕ) → hex_from v (c ∷ r) ≡ hex_from (v * 16 + hex_val c) r
unfolding hex_from
from_more v c r = refl

-- no more digits than bytes
pub run_inside : (k : ℕ) (r : List ℕ) → hex_run k r ≤ length r
unfolding hex_digits
run_inside zero r = zero-le
run_inside (suc k) [] = zero-le
run_inside (suc k) (c ∷ r) =
    split (ltb (hex_val c) 16)
    (λ e. rw (pick_true _ _ _ e) (suc-le-suc (run_inside k r)))
    (λ e. rw (pick_false _ _ _ e) zero-le)

module _ (most : ℕ) (r : List ℕ) where
  -- the digits left to count, when n are counted
  abbrev left : ℕ → List ℕ
  left n = hex_digits (most - n) (drop n r)

  pub record Kept (count value : ℕ) : Type 0 where
    pub few : count ≤ most
    pub small : value < 16 ^ count
    pub run : count + length (left count) ≡ hex_run most r
    pub number : hex_from value (left count) ≡ hex_number most r

  pub begun : Kept 0 0
  begun =
      let m : most - 0 ≡ most = omega arith in
      record { few = zero-le; small = omega arith; run = zero-add _ ∙ rw m refl; number = rw m refl }

  module _ (n v : ℕ) (k : Kept n v) where
    below : v < 16 ^ most
    below = lt_of_lt_of_le k.small (pow-le-pow_right (zero-lt-suc 15) k.few)

    module _ (h : n < most) where
      -- a digit more fits seven
      pub room : most ≤ 7 → v < 16 ^ 6
      room m = let p : n ≤ 6 = omega arith in lt_of_lt_of_le k.small (pow-le-pow_right (zero-lt-suc 15) p)

      front : get_or (drop n r) 0 0 ≡ get_or r n 0
      front = get_or-drop n r 0 0 ∙ ap (λ (m : ℕ). get_or r m 0) (add-zero n)

      first : (d : ℕ) → d ≡ hex_val (get_or r n 0) → d ≡ hex_val (get_or (drop n r) 0 0)
      first d e = e ∙ ap hex_val (sym front)

      less : most - n ≡ suc (most - (n + 1))
      less = omega arith

      moved : (d : ℕ) → d ≡ hex_val (get_or r n 0) → d < 16 → left n ≡ get_or r n 0 ∷ left (n + 1)
      moved d e l =
          rw less
          (hex_more (most - (n + 1)) (drop n r) (rw (first d e) at l)
          ∙ (λ i. front i ∷ hex_digits (most - (n + 1)) (drop-drop 1 n r i)))

      ended : (d : ℕ) → d ≡ hex_val (get_or r n 0) → 16 ≤ d → left n ≡ []
      ended d e l = rw less (hex_stop (most - (n + 1)) (drop n r) (rw (first d e) at l))

      pub again : (d : ℕ) → d ≡ hex_val (get_or r n 0) → d < 16 → Kept (n + 1) (v * 16 + d)
      again d e l =
          record {
            few = omega arith;
            small = rw (add-one, pow-suc) (omega (arith, k.small));
            run = omega (arith, ap length (moved d e l), k.run);
            number = rw e (sym (from_more v (get_or r n 0) (left (n + 1))) ∙ ap (hex_from v) (sym (moved d e l)) ∙ k.number);
          }

    -- the count and the number, where no digit is left
    module _ (z : left n ≡ []) where
      done_run : n ≡ hex_run most r
      done_run = omega (arith, ap length z, k.run)

      done_number : v ≡ hex_number most r
      done_number = sym (from_none v) ∙ ap (hex_from v) (sym z) ∙ k.number

  -- what is promised of the count and the number
  abbrev Counted : ℕ → ℕ → Type 0
  Counted n v = (n ≡ hex_run most r) × (v ≡ hex_number most r) × (v < 16 ^ most)

  pub stopped : (n v : ℕ) → Kept n v → n < most → (d : ℕ) → d ≡ hex_val (get_or r n 0) → 16 ≤ d → Counted n v
  stopped n v k h d e l = let z = ended n v k h d e l in (done_run n v k z, done_number n v k z, below n v k)

  pub full : (n v : ℕ) → Kept n v → most ≤ n → Counted n v
  full n v k h =
      let m : most - n ≡ 0 = omega arith in
      let z : left n ≡ [] = rw m (hex_none (drop n r)) in (done_run n v k z, done_number n v k z, below n v k)
