-- The loop over the continuation bytes behind a start: the fault is that of the number so far and the bytes still to come, and each turn takes one of them.
-- Assumes nothing.
use Prim.Native.Nat.{ℕ, zero, suc, ◌+◌, ◌-◌, ◌*◌, ◌^◌, ◌≤◌, ◌<◌}
use mathlib.Core.Bool.{Bool, true, false}
use mathlib.Core.List.{List, [], ◌∷◌}
use mathlib.Core.Path.{◌≡◌, refl, sym, ap, ◌∙◌}
use native.Mathlib.Nat.{pow-suc}
use native.Mathlib.Numerals.{add-one}
use native.Mathlib.Omega.{arith}
use borrow.Author.Tests.{leb-true}
use lib.Dec.{leb, lit≤}
use lib.ListN.{length, get_or, drop}
use lib.Seq.{drop-cons}
use Rattle.std.specs.Prelude.{Option, Some}
use Rattle.prelude.specs.Pick.{pick}
use Rattle.prelude.specs.declared.refusals.Refusal.{Refusal}
use Rattle.prelude.specs.Refusals.{utf8_bad_encoding, utf8_incomplete}
use Rattle.prelude.proofs.Cases.{split, and_left, and_right}
use Rattle.utf8.specs.Utf8.{tail, no_start, wanted, has_tails, start_bits, tails_on, value_of, least_of, value_fault, fault_from, char_fault}
use Rattle.utf8.proofs.Values.{by_start}

-- the fault of a number so far, with n bytes to come
abbrev fault_on : ℕ → ℕ → ℕ → List ℕ → Option Refusal
fault_on least v n r = pick (has_tails n r) (value_fault least (tails_on v n r)) (Some utf8_incomplete)

byte : (least v n k : ℕ) (r : List ℕ)
    → fault_on least v (suc n) (drop k r) ≡ pick (tail (get_or r k 0)) (fault_on least (v * 0x40 + (get_or r k 0 - 0x80)) n (drop (suc k) r)) (Some utf8_incomplete)
unfolding has_tails tails_on pick
byte least v n zero [] = refl
byte least v n zero (b ∷ r) = split (tail b) (λ e. rw e) (λ e. rw e)
byte least v n (suc k) [] = refl
byte least v n (suc k) (b ∷ r) = byte least v n k r

pub tail_low : (b : ℕ) → tail b ≡ true → 0x80 ≤ b
tail_low b e = leb-true 0x80 b (and_left (leb 0x80 b) _ e)

-- the invariant, k bytes behind the start
pub record Turns (a : ℕ) (r : List ℕ) (n v k : ℕ) : Type 0 where
  pub inside : k ≤ n
  pub few : n ≤ 3
  pub small : v < 0x80 * 0x40 ^ k
  pub same : fault_from a r ≡ fault_on (least_of a) v (n - k) (drop k r)

pub begun : (a : ℕ) (r : List ℕ) (n v : ℕ) → no_start a ≡ false → n ≡ wanted a → v ≡ start_bits a → Turns a r n v 0
unfolding fault_from value_of
begun a r n v s e f = record {
  inside = omega arith;
  few = rw e (by_start (λ l b n. n ≤ 3) a s (λ h. lit≤ tt) (λ h g. lit≤ tt) (λ h g. lit≤ tt) (λ h g. lit≤ tt));
  small = rw f (by_start (λ l b n. b < 0x80) a s (λ h. h) (λ h g. omega arith) (λ h g. omega arith) (λ h g. omega arith));
  same = let z : wanted a - 0 ≡ wanted a = omega arith in rw (e, f, z);
}

below : (k v : ℕ) → k < 3 → v < 0x80 * 0x40 ^ k → v < 0x80000
below zero v h g = omega arith
below (suc zero) v h g = omega arith
below (suc (suc zero)) v h g = omega arith
below (suc (suc (suc k))) v h g = absurd (omega arith)

module _ {a : ℕ} {r : List ℕ} {n v k : ℕ} (t : Turns a r n v k) where
  pub told : (l : ℕ) (f : Option Refusal) → n ≤ k → l ≡ least_of a → f ≡ value_fault l v → f ≡ fault_from a r
  unfolding has_tails tails_on pick
  told l f h e q =
      let z : n - k ≡ 0 = omega arith in q ∙ ap (λ (m : ℕ). value_fault m v) e ∙ sym (t.same ∙ ap (λ (m : ℕ). fault_on (least_of a) v m (drop k r)) z)

  module _ (h : k < n) where
    pub roomy : v < 0x80000
    roomy = below k v (omega (arith, t.few)) t.small

    turn : fault_from a r ≡ pick (tail (get_or r k 0)) (fault_on (least_of a) (v * 0x40 + (get_or r k 0 - 0x80)) (n - (k + 1)) (drop (k + 1) r)) (Some utf8_incomplete)
    turn = let z : n - k ≡ suc (n - (k + 1)) = omega arith in t.same ∙ rw (z, add-one) (byte (least_of a) v (n - suc k) k r)

    module _ (b : ℕ) (e : b ≡ get_or r k 0) where
      pub cut : tail b ≡ false → Some utf8_incomplete ≡ fault_from a r
      unfolding pick
      cut f = sym (turn ∙ rw (← e, f))

      pub on : tail b ≡ true → Turns a r n (v * 0x40 + (b - 0x80)) (k + 1)
      unfolding pick
      on f =
          let l = leb-true b 0xbf (and_right (leb 0x80 b) _ f) in record {
            inside = omega arith;
            few = t.few;
            small = rw (add-one, pow-suc) (omega (arith, t.small));
            same = turn ∙ rw (← e, f);
          }

-- the start itself
module _ (s : List ℕ) (at : ℕ) (h : at < length s) (b : Bool) (e : b ≡ no_start (get_or s at 0)) where
  here : char_fault (drop at s) ≡ pick b (Some utf8_bad_encoding) (fault_from (get_or s at 0) (drop (at + 1) s))
  unfolding char_fault
  here = rw (drop-cons s at 0 h, add-one, e)

  pub no_start_lem : b ≡ true → Some utf8_bad_encoding ≡ char_fault (drop at s)
  unfolding pick
  no_start_lem t = sym (here ∙ rw t)

  pub from_start : (f : Option Refusal) → b ≡ false → f ≡ fault_from (get_or s at 0) (drop (at + 1) s) → f ≡ char_fault (drop at s)
  unfolding pick
  from_start f t q = q ∙ sym (here ∙ rw t)
