-- The faults of source 003 beside the grammar of RFC 3629: what a fault tells is read off the decision list; a number without fault is a scalar value, whose
-- pattern is a character, and a character writes one.
-- Assumes nothing.
use Prim.Native.Nat.{ℕ, zero, suc, ◌-◌, ◌≤◌, ◌<◌}
use mathlib.Core.Bool.{true, false}
use mathlib.Core.List.{List, [], ◌∷◌}
use mathlib.Core.Logic.{◌⊎◌, inl, inr}
use mathlib.Core.Path.{◌≡◌, refl, ◌∙◌, subst}
use native.Mathlib.Omega.{arith}
use lib.Dec.{ltb, leb, lit≤}
use lib.ListN.{take, drop, take-append-drop}
use lib.Seq.{take-length}
use borrow.Author.Tests.{ltb-true, ltb-false, leb-true, lt-ltb, le-ltb, le-leb, lt-leb}
use Rattle.std.specs.Prelude.{Option, Some, None}
use Rattle.prelude.specs.Pick.{pick}
use Rattle.prelude.specs.declared.refusals.Refusal.{Refusal}
use Rattle.prelude.specs.Refusals.{number_of, FromTo, utf8_bad_encoding, utf8_incomplete, utf8_overlong, utf8_surrogate, utf8_too_large}
use Rattle.prelude.proofs.Cases.{split, and_left, and_right, never}
use Rattle.prelude.proofs.Picks.{pick_case, and_no_second}
use Rattle.utf8.specs.Utf8.{between, no_start, wanted, has_tails, value_of, least_of, value_fault, fault_from, char_fault, char_len}
use Rattle.utf8.specs.Claims.{IsScalar, Complete}
use Rattle.utf8.proofs.Characters.{char_take}
use Rattle.utf8.proofs.Encoded.{OneChar, encode_char}
use Rattle.utf8.proofs.Values.{wrote, writes, by_start}

-- a fault's number, 0 where there is none
abbrev pub fault_number : Option Refusal → ℕ
fault_number (Some fault) = number_of fault
fault_number None = 0

-- what a fault tells, by its number less 22, which is 0 where there is none
abbrev pub Says : ℕ → List ℕ → ℕ → Type 0
Says a r zero = Complete a r × ((least_of a ≤ value_of a r) × IsScalar (value_of a r))
Says a r (suc zero) = no_start a ≡ true
Says a r (suc (suc zero)) = (no_start a ≡ false) × (has_tails (wanted a) r ≡ false)
Says a r (suc (suc (suc zero))) = Complete a r × (value_of a r < least_of a)
Says a r (suc (suc (suc (suc zero)))) = Complete a r × ((least_of a ≤ value_of a r) × ((0xd800 ≤ value_of a r) × (value_of a r ≤ 0xdfff)))
Says a r (suc (suc (suc (suc (suc zero))))) = Complete a r × (0x10ffff < value_of a r)
Says a r (suc (suc (suc (suc (suc (suc n)))))) = ⊥

-- none, or one of the five
abbrev Numbered : Option Refusal → Type 0
Numbered f = (f ≡ None) ⊎ ((23 ≤ fault_number f) × (fault_number f ≤ 27))

module _ (a : ℕ) (r : List ℕ) where
  abbrev v : ℕ
  v = value_of a r

  abbrev P : Option Refusal → Type 0
  P f = Says a r (fault_number f - 22)

  no_half : between 0xd800 0xdfff v ≡ false → 0xd800 ≤ v → v ≤ 0xdfff → ⊥
  no_half h x y = let z = rw (le-leb 0xd800 v x, le-leb v 0xdfff y) at h in never cc

  pub says : P (char_fault (a ∷ r))
  unfolding char_fault fault_from value_fault
  says =
      pick_case P (no_start a) (Some utf8_bad_encoding) _ (λ s. s)
      (λ s. pick_case P (has_tails (wanted a) r) _ (Some utf8_incomplete)
      (λ t. let c : Complete a r = record { start = s; tails = t } in pick_case P (ltb v (least_of a)) (Some utf8_overlong) _ (λ e. (c, ltb-true v _ e))
      (λ e. let m = ltb-false v (least_of a) e in pick_case P (between 0xd800 0xdfff v) (Some utf8_surrogate) _
      (λ h. (c, (m, (leb-true 0xd800 v (and_left (leb 0xd800 v) _ h), leb-true v 0xdfff (and_right (leb 0xd800 v) _ h)))))
      (λ h. pick_case P (ltb 0x10ffff v) (Some utf8_too_large) None (λ g. (c, ltb-true 0x10ffff v g))
      (λ g. (c, (m, (let l = ltb-false 0x10ffff v g in omega arith, no_half h)))))))
      (λ t. (s, t)))

  numbered : Numbered (char_fault (a ∷ r))
  unfolding char_fault fault_from value_fault
  numbered =
      pick_case Numbered (no_start a) (Some utf8_bad_encoding) _ (λ e. inr (lit≤ tt, lit≤ tt)) (λ e.
      pick_case Numbered (has_tails (wanted a) r) _ (Some utf8_incomplete)
      (λ e. pick_case Numbered (ltb v (least_of a)) (Some utf8_overlong) _ (λ e. inr (lit≤ tt, lit≤ tt)) (λ e.
      pick_case Numbered (between 0xd800 0xdfff v) (Some utf8_surrogate) _ (λ e. inr (lit≤ tt, lit≤ tt)) (λ e.
      pick_case Numbered (ltb 0x10ffff v) (Some utf8_too_large) None (λ e. inr (lit≤ tt, lit≤ tt)) (λ e. inl refl))))
      (λ e. inr (lit≤ tt, lit≤ tt)))

-- and the other way round: what has a fault's marks has its number
module _ (a : ℕ) (r : List ℕ) (c : Complete a r) where
  valued : char_fault (a ∷ r) ≡ value_fault (least_of a) (value_of a r)
  unfolding char_fault fault_from pick
  valued = rw (c.start, c.tails)

  pub is_overlong : value_of a r < least_of a → char_fault (a ∷ r) ≡ Some utf8_overlong
  unfolding value_fault pick
  is_overlong h = valued ∙ rw (lt-ltb (value_of a r) (least_of a) h)

  pub is_surrogate : least_of a ≤ value_of a r → 0xd800 ≤ value_of a r → value_of a r ≤ 0xdfff → char_fault (a ∷ r) ≡ Some utf8_surrogate
  unfolding value_fault pick
  is_surrogate h l m = valued ∙ rw (le-ltb (value_of a r) (least_of a) h, le-leb 0xd800 (value_of a r) l, le-leb (value_of a r) 0xdfff m)

  above : least_of a ≤ value_of a r → between 0xd800 0xdfff (value_of a r) ≡ false → char_fault (a ∷ r) ≡ pick (ltb 0x10ffff (value_of a r)) (Some utf8_too_large) None
  unfolding value_fault pick
  above h b = valued ∙ rw (le-ltb (value_of a r) (least_of a) h, b)

  pub is_large : 0x10ffff < value_of a r → char_fault (a ∷ r) ≡ Some utf8_too_large
  unfolding pick
  is_large h =
      above (omega (arith, by_start (λ l b n. l ≤ 0x10000) a c.start (λ h. lit≤ tt) (λ h g. lit≤ tt) (λ h g. lit≤ tt) (λ h g. lit≤ tt)))
      (and_no_second (leb 0xd800 (value_of a r)) _ (lt-leb (value_of a r) 0xdfff (omega arith)))
      ∙ rw (lt-ltb 0x10ffff (value_of a r) h)

  is_fine : least_of a ≤ value_of a r → IsScalar (value_of a r) → char_fault (a ∷ r) ≡ None
  unfolding pick
  is_fine h (l, n) =
      split (between 0xd800 0xdfff (value_of a r))
      (λ b. absurd (n (leb-true _ _ (and_left (leb 0xd800 (value_of a r)) _ b)) (leb-true _ _ (and_right (leb 0xd800 (value_of a r)) _ b))))
      (λ b. above h b ∙ rw (le-ltb 0x10ffff (value_of a r) (omega arith)))

-- a character and no fault, or a fault and no character
abbrev pub Verdict : ℕ → Option Refusal → Type 0
Verdict n f = ((0 < n) × (f ≡ None)) ⊎ ((n ≡ 0) × ((23 ≤ fault_number f) × (fault_number f ≤ 27)))

module _ (a : ℕ) (r : List ℕ) where
  taken : char_fault (a ∷ r) ≡ None → 0 < char_len (a ∷ r)
  taken e =
      let (c, (l, s)) : Says a r 0 = subst (λ (f : Option Refusal). Says a r (fault_number f - 22)) e (says a r) in
      let o : OneChar (a ∷ take (wanted a) r) = subst OneChar ((writes a r c).back l) (encode_char (value_of a r) s) in
      let k = rw (take-length, take-append-drop) at (char_take a (take (wanted a) r) (drop (wanted a) r) _ o) in omega (arith, k)

  pub verdict : Verdict (char_len (a ∷ r)) (char_fault (a ∷ r))
  verdict = go (char_len (a ∷ r)) refl (numbered a r)
    where
      go : (n : ℕ) → char_len (a ∷ r) ≡ n → Numbered (char_fault (a ∷ r)) → Verdict n (char_fault (a ∷ r))
      go (suc n) e k = let w = wrote a r n e in inl (omega arith, is_fine a r w.whole w.enough w.scalar)
      go zero e (inl z) = absurd (omega (arith, e, taken z))
      go zero e (inr l) = inr (refl, l)

-- a fault's number, of nothing too
number_range : (s : List ℕ) → char_len s ≡ 0 → (23 ≤ fault_number (char_fault s)) × (fault_number (char_fault s) ≤ 27)
unfolding char_fault
number_range [] e = (omega arith, omega arith)
number_range (a ∷ r) e = go (verdict a r)
  where
    go : Verdict (char_len (a ∷ r)) (char_fault (a ∷ r)) → (23 ≤ fault_number (char_fault (a ∷ r))) × (fault_number (char_fault (a ∷ r)) ≤ 27)
    go (inl (l, f)) = absurd (omega (arith, e, l))
    go (inr (z, l)) = l

-- where no character stands, one of the five
pub fault_told : (s : List ℕ) → char_len s ≡ 0 → (fault : Refusal) × ((char_fault s ≡ Some fault) × FromTo utf8_bad_encoding utf8_too_large fault)
fault_told s z = go (char_fault s) refl (number_range s z)
  where
    go : (f : Option Refusal) → char_fault s ≡ f → (23 ≤ fault_number (char_fault s)) × (fault_number (char_fault s) ≤ 27)
        → (fault : Refusal) × ((char_fault s ≡ Some fault) × FromTo utf8_bad_encoding utf8_too_large fault)
    go (Some fault) e l = (fault, (e, rw e at l))
    go None e (l, m) = absurd (omega (arith, rw e at l))
