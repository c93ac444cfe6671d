-- Each fault is given just where its sentence says so: what its number tells (Faults), the converse, and that a number is overlong where its pattern has fewer bytes.
-- Assumes nothing.
use Prim.Native.Nat.{ℕ, zero, suc, ◌-◌, ◌≤◌, ◌<◌}
use mathlib.Core.Bool.{true, false}
use mathlib.Core.List.{List, [], ◌∷◌}
use mathlib.Core.Logic.{◌⊎◌, inl, inr}
use mathlib.Core.Path.{◌≡◌, refl, sym, ap, ◌∙◌, subst}
use native.Mathlib.Omega.{arith}
use lib.Dec.{ltb, leb}
use lib.ListN.{length, take}
use borrow.Author.Tests.{ltb-true, ltb-false, lt-ltb, le-ltb, leb-true, leb-false, le-leb, lt-leb}
use Rattle.std.specs.Prelude.{Option, Some, None, Result, Ok, Err}
use Rattle.prelude.specs.Pick.{pick}
use Rattle.prelude.specs.declared.refusals.Refusal.{Refusal}
use Rattle.prelude.specs.Refusals.{number_of, utf8_bad_encoding, utf8_incomplete}
use Rattle.prelude.proofs.Cases.{split, and_left, and_right, never}
use Rattle.prelude.proofs.Picks.{and_no_second}
use Rattle.utf8.specs.Utf8.{tail, no_start, wanted, has_tails, value_of, least_of, fault_from, char_fault, char_len, refused_by, char_by, char_at}
use Rattle.utf8.specs.Claims.{tail_run, TooFew, Complete, Overlong}
use Rattle.utf8.proofs.Faults.{fault_number, Says, says, Verdict, verdict}
use Rattle.utf8.proofs.Values.{writes, fewer}

-- what is refused as no character has its fault
by_fault : (f : Option Refusal) (k : Refusal) → refused_by f ≡ Err k → f ≡ Some k
by_fault (Some fault) k e = cc
by_fault None k e = never cc

at_bad : (s : List ℕ) (k : Refusal) → char_at s ≡ Err k → char_fault s ≡ Some k
at_bad s k e = go (char_len s) refl
  where
    go : (n : ℕ) → char_len s ≡ n → char_fault s ≡ Some k
    go zero z = by_fault (char_fault s) k (sym (ap (λ (m : ℕ). char_by m s) z) ∙ e)
    go (suc n) z = let w : char_by (suc n) s ≡ Err k = sym (ap (λ (m : ℕ). char_by m s) z) ∙ e in never cc

-- starts by their bytes
pub start_bytes : (a : ℕ) → no_start a ≡ true → ((0x80 ≤ a) × (a ≤ 0xbf)) ⊎ (0xf8 ≤ a)
unfolding no_start pick
start_bytes a e =
    split (tail a) (λ t. inl (leb-true _ _ (and_left (leb 0x80 a) _ t), leb-true _ _ (and_right (leb 0x80 a) _ t)))
    (λ t. inr (leb-true 0xf8 a (rw t at e)))

pub bytes_start : (a : ℕ) → ((0x80 ≤ a) × (a ≤ 0xbf)) ⊎ (0xf8 ≤ a) → no_start a ≡ true
unfolding no_start pick
bytes_start a (inl (h, g)) = rw (le-leb 0x80 a h, le-leb a 0xbf g)
bytes_start a (inr h) = rw (and_no_second (leb 0x80 a) (leb a 0xbf) (lt-leb a 0xbf (omega arith)), le-leb 0xf8 a h)

-- continuation bytes by their number
has_run : (n : ℕ) (r : List ℕ) → has_tails n r ≡ leb n (tail_run r)
unfolding has_tails tail_run pick
has_run zero r = sym (le-leb 0 (tail_run r) (omega arith))
has_run (suc n) [] = sym (lt-leb (suc n) 0 (omega arith))
has_run (suc n) (b ∷ r) =
    split (tail b) (λ e. rw e (has_run n r ∙ same)) (λ e. rw e (sym (lt-leb (suc n) 0 (omega arith))))
  where
    same : leb n (tail_run r) ≡ leb (suc n) (suc (tail_run r))
    same =
        split (leb n (tail_run r))
        (λ e. e ∙ sym (le-leb (suc n) (suc (tail_run r)) (omega (arith, leb-true n (tail_run r) e))))
        (λ e. e ∙ sym (lt-leb (suc n) (suc (tail_run r)) (omega (arith, leb-false n (tail_run r) e))))

too_few : (a : ℕ) (r : List ℕ) → no_start a ≡ false → has_tails (wanted a) r ≡ false → TooFew a r
unfolding wanted no_start pick
too_few a r s t =
    let f : tail_run r < wanted a = leb-false (wanted a) (tail_run r) (sym (has_run (wanted a) r) ∙ t) in
    split (ltb a 0x80) (λ e. absurd (omega (arith, rw e at f)))
    (λ e. split (leb a 0xbf)
    (λ d. never (let z : true ≡ false = rw (le-leb 0x80 a (ltb-false a 0x80 e), d) at s in cc))
    (λ d. let l = leb-false a 0xbf d in split (ltb a 0xe0) (λ c. inl ((omega arith, omega (arith, ltb-true a 0xe0 c)), rw (e, c) at f))
    (λ c. split (ltb a 0xf0) (λ b. inr (inl ((ltb-false a 0xe0 c, omega (arith, ltb-true a 0xf0 b)), rw (e, c, b) at f)))
    (λ b. inr (inr ((ltb-false a 0xf0 b, below l), rw (e, c, b) at f))))))
  where
    below : 0xbf < a → a ≤ 0xf7
    below l = split (leb 0xf8 a) (λ q. never (let z : true ≡ false = rw (and_no_second (leb 0x80 a) (leb a 0xbf) (lt-leb a 0xbf l), q) at s in cc)) (λ q. omega (arith, leb-false 0xf8 a q))

cut_start : (a : ℕ) → 0xc0 ≤ a → a ≤ 0xf7 → no_start a ≡ false
unfolding no_start pick
cut_start a h g = rw (and_no_second (leb 0x80 a) (leb a 0xbf) (lt-leb a 0xbf (omega arith)), lt-leb 0xf8 a (omega arith))

few_tails : (a : ℕ) (r : List ℕ) (n : ℕ) → wanted a ≡ n → tail_run r < n → has_tails (wanted a) r ≡ false
few_tails a r n e h = has_run (wanted a) r ∙ lt-leb (wanted a) (tail_run r) (omega (arith, e))

few_cut : (a : ℕ) (r : List ℕ) → TooFew a r → (no_start a ≡ false) × (has_tails (wanted a) r ≡ false)
unfolding wanted pick
few_cut a r (inl ((h, g), f)) =
    (cut_start a h (omega arith), few_tails a r 1 (rw (le-ltb a 0x80 (omega arith), lt-ltb a 0xe0 (omega arith))) f)
few_cut a r (inr (inl ((h, g), f))) =
    (cut_start a (omega arith) (omega arith), few_tails a r 2 (rw (le-ltb a 0x80 (omega arith), le-ltb a 0xe0 h, lt-ltb a 0xf0 (omega arith))) f)
few_cut a r (inr (inr ((h, g), f))) =
    (cut_start a (omega arith) g, few_tails a r 3 (rw (le-ltb a 0x80 (omega arith), le-ltb a 0xe0 (omega arith), le-ltb a 0xf0 h)) f)

tails_length : (n : ℕ) (r : List ℕ) → has_tails n r ≡ true → length (take n r) ≡ n
unfolding has_tails
tails_length zero r e = refl
tails_length (suc n) [] e = never cc
tails_length (suc n) (b ∷ r) e = ap suc (tails_length n r (and_right (tail b) _ e))

module _ (a : ℕ) (r : List ℕ) where
  pub bad_says : (k : Refusal) → char_at (a ∷ r) ≡ Err k → Says a r (number_of k - 22)
  bad_says k e = subst (λ (f : Option Refusal). Says a r (fault_number f - 22)) (at_bad (a ∷ r) k e) (says a r)

  pub bad_at : (k : Refusal) → char_fault (a ∷ r) ≡ Some k → char_at (a ∷ r) ≡ Err k
  bad_at k e = go (verdict a r)
    where
      go : Verdict (char_len (a ∷ r)) (char_fault (a ∷ r)) → char_at (a ∷ r) ≡ Err k
      go (inl (l, f)) = never cc
      go (inr (z, l)) = ap (λ (m : ℕ). char_by m (a ∷ r)) z ∙ ap refused_by e

  pub is_bad : no_start a ≡ true → char_fault (a ∷ r) ≡ Some utf8_bad_encoding
  unfolding char_fault pick
  is_bad e = rw e

  pub is_cut : TooFew a r → char_fault (a ∷ r) ≡ Some utf8_incomplete
  unfolding char_fault fault_from pick
  is_cut h = let (e, f) = few_cut a r h in rw (e, f)

  pub cut_is : char_at (a ∷ r) ≡ Err utf8_incomplete → TooFew a r
  cut_is e = let (s, t) = bad_says utf8_incomplete e in too_few a r s t

  module _ (c : Complete a r) where
    pub over : value_of a r < least_of a → Overlong a r
    over = fewer a (value_of a r) c.start

    pub full : least_of a ≤ value_of a r → Overlong a r → ⊥
    full h o = omega (arith, ap length ((writes a r c).back h), tails_length (wanted a) r c.tails, o)

    pub below_least : Overlong a r → value_of a r < least_of a
    below_least o = split (ltb (value_of a r) (least_of a)) (ltb-true _ _) (λ e. absurd (full (ltb-false _ _ e) o))

    pub enough : (Overlong a r → ⊥) → least_of a ≤ value_of a r
    enough n = split (ltb (value_of a r) (least_of a)) (λ e. absurd (n (over (ltb-true _ _ e)))) (ltb-false _ _)
