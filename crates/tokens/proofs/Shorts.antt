-- Tokens that few bytes tell: a word whose bytes are compared, by the bytes one after another; a number that is a run of digits, which its
-- first eight bytes tell.
-- Assumes nothing.
use mathlib.Core.Path.{◌≡◌, refl, sym, ap, ◌∙◌, subst}
use mathlib.Core.Bool.{true, false}
use mathlib.Core.List.{List, [], ◌∷◌}
use Prim.Native.Nat.{ℕ, zero, suc, ◌+◌, ◌-◌, ◌≤◌, ◌<◌}
use native.Mathlib.Omega.{arith}
use native.Mathlib.Nat.{add-zero}
use borrow.Author.Tests.{ltb-false, ltb-true, leb-true, le-ltb, le-leb}
use lib.Dec.{ltb, leb}
use lib.ListN.{length, get_or, drop}
use lib.Seq.{get_or-drop}
use Rattle.prelude.specs.Pick.{pick}
use Rattle.prelude.proofs.Cases.{split, and_left, and_right, never}
use Rattle.notation.specs.Marks.{opening}
use Rattle.eights.specs.inner.Words.{is_other, First}
use Rattle.tokens.specs.Words.{is_letter, is_digit, is_word, run_of, same_bytes, word_value}
use Rattle.tokens.specs.Numbers.{is_e, is_sign, is_number, behind_int, int, found, number_from, number_at}
use Rattle.tokens.specs.Starts.{start_of}
use Rattle.tokens.specs.inner.Parts.{Leads, Spelt, name_kind, Named}
use Rattle.tokens.proofs.Runs.{run_none, one_more, stopped, ended}
use Rattle.tokens.proofs.Grammar.{digit_number, e_number, whole, int_end, no_minus, zero_leads, digits_lead, legal_at}

-- a word ends before a byte that has no part in one, and at the text's end
over : (r : List ℕ) → is_word (get_or r 0 0) ≡ false → run_of is_word r ≡ []
unfolding run_of
over [] e = refl
over (x ∷ r) e = run_none is_word x r e

pub true_named : (s : List ℕ) → get_or s 0 0 ≡ 0x74 → Spelt s 1 0x72 0x75 0x65 → Named s 0x74 4
unfolding run_of is_word is_letter pick word_value same_bytes name_kind start_of opening
true_named [] a p = absurd (omega arith)
true_named (x ∷ []) a p = absurd (omega (arith, p.first))
true_named (x ∷ y ∷ []) a p = absurd (omega (arith, p.second))
true_named (x ∷ y ∷ z ∷ []) a p = absurd (omega (arith, p.third))
true_named (x ∷ y ∷ z ∷ w ∷ r) a p = rw (a, p.first, p.second, p.third) (
    let e : run_of is_word r ≡ [] = over r p.over in
    record { value = rw e; long = rw e; start = refl })

pub null_named : (s : List ℕ) → get_or s 0 0 ≡ 0x6e → Spelt s 1 0x75 0x6c 0x6c → Named s 0x6e 4
unfolding run_of is_word is_letter pick word_value same_bytes name_kind start_of opening
null_named [] a p = absurd (omega arith)
null_named (x ∷ []) a p = absurd (omega (arith, p.first))
null_named (x ∷ y ∷ []) a p = absurd (omega (arith, p.second))
null_named (x ∷ y ∷ z ∷ []) a p = absurd (omega (arith, p.third))
null_named (x ∷ y ∷ z ∷ w ∷ r) a p = rw (a, p.first, p.second, p.third) (
    let e : run_of is_word r ≡ [] = over r p.over in
    record { value = rw e; long = rw e; start = refl })

pub false_named : (s : List ℕ) → get_or s 0 0 ≡ 0x66 → get_or s 1 0 ≡ 0x61 → Spelt s 2 0x6c 0x73 0x65 → Named s 0x66 5
unfolding run_of is_word is_letter pick word_value same_bytes name_kind start_of opening
false_named [] a b p = absurd (omega arith)
false_named (x ∷ []) a b p = absurd (omega arith)
false_named (x ∷ v ∷ []) a b p = absurd (omega (arith, p.first))
false_named (x ∷ v ∷ y ∷ []) a b p = absurd (omega (arith, p.second))
false_named (x ∷ v ∷ y ∷ z ∷ []) a b p = absurd (omega (arith, p.third))
false_named (x ∷ v ∷ y ∷ z ∷ w ∷ r) a b p = rw (a, b, p.first, p.second, p.third) (
    let e : run_of is_word r ≡ [] = over r p.over in
    record { value = rw e; long = rw e; start = refl })

-- digits
pub digit : (b : ℕ) → is_other b ≡ false → is_digit b ≡ true
unfolding is_other pick
digit b e =
    split (ltb b 0x30)
    (λ q. never (let z : true ≡ false = rw q at e in cc))
    (λ q. let z : ltb 0x39 b ≡ false = rw q at e in rw (le-leb 0x30 b (ltb-false b 0x30 q), le-leb b 0x39 (ltb-false 0x39 b z)))

no_other : (b : ℕ) → is_digit b ≡ true → is_other b ≡ false
unfolding is_other pick
no_other b e = rw (le-ltb b 0x30 (leb-true 0x30 b (and_left (leb 0x30 b) _ e)), le-ltb 0x39 b (leb-true b 0x39 (and_right (leb 0x30 b) _ e)))

no_digit : (y : ℕ) → is_number y ≡ false → is_digit y ≡ false
no_digit y e = split (is_digit y) (λ q. never (let z : true ≡ false = sym (digit_number y q) ∙ e in cc)) (λ q. q)

no_e : (y : ℕ) → is_number y ≡ false → is_e y ≡ false
no_e y e = split (is_e y) (λ q. never (let z : true ≡ false = sym (e_number y q) ∙ e in cc)) (λ q. q)

no_point : (y : ℕ) → is_number y ≡ false → y ≡ 0x2e → ⊥
unfolding is_number is_sign pick
no_point y e q = let z : true ≡ false = rw q at e in never cc

digits_so : (s : List ℕ) (at n : ℕ) → at + n ≤ length s → ((j : ℕ) → j < n → is_digit (get_or s (at + j) 0) ≡ true)
    → at + n + length (run_of is_digit (drop (at + n) s)) ≡ at + length (run_of is_digit (drop at s))
digits_so s at zero h f = rw (add-zero at)
digits_so s at (suc n) h f =
    let i = digits_so s at n (omega arith) (λ j l. f j (omega arith)) in
    let q : at + n + 1 ≡ at + suc n = omega arith in
    subst (λ (k : ℕ). k + length (run_of is_digit (drop k s)) ≡ at + length (run_of is_digit (drop at s))) q
    (one_more is_digit s at (at + n) i (omega arith) (f n (omega arith)))

module _ (s : List ℕ) (from x k : ℕ) (ex : x ≡ get_or (drop from s) 0 0) (d : is_digit x ≡ true) (h : from + 8 ≤ length s)
    (g : First (λ j. is_other (get_or s (from + j) 0)) 8 k) (y : ℕ) (ey : y ≡ get_or (drop from s) k 0) (e : is_number y ≡ false) where
  at_end_lem : y ≡ get_or (drop (from + k) s) 0 0
  at_end_lem =
      ey ∙ get_or-drop from s k 0 ∙ (let q : from + k ≡ from + k + 0 = omega arith in ap (λ (j : ℕ). get_or s j 0) q) ∙ sym (get_or-drop (from + k) s 0 0)

  ends_here : found 3 (from + k) ≡ number_from behind_int (from + k) (drop (from + k) s)
  ends_here = int_end s (from + k) y _ at_end_lem (no_point y e) (no_e y e) (whole s (from + k) y at_end_lem 3 (omega arith) e)

  no_minus_here : x ≡ 0x2d → ⊥
  no_minus_here q = never (let z : true ≡ false = sym d ∙ ap is_digit q in cc)

  told : Leads int behind_int s from (from + k) → found 3 k ≡ number_at (drop from s)
  told l =
      let q : from + k - from ≡ k = omega arith in
      subst (λ (j : ℕ). found 3 j ≡ number_at (drop from s)) q
      (legal_at s from 3 (from + k) _ (no_minus s from x _ ex no_minus_here (ends_here ∙ l.same)) refl)

  pub zero_told : x ≡ 0x30 → k ≡ 1 → (0 < k) × (found 3 k ≡ number_at (drop from s))
  zero_told z q = (omega arith, told (subst (λ (j : ℕ). Leads int behind_int s from (from + j)) (sym q) (zero_leads s from x ex z)))

  run : 0 < k → from + k ≡ from + 1 + length (run_of is_digit (drop (from + 1) s))
  run p =
      let n : from + 1 + (k - 1) ≡ from + k = omega arith in
      let f : (j : ℕ) → j < k - 1 → is_digit (get_or s (from + 1 + j) 0) ≡ true =
      λ j l. let m : from + suc j ≡ from + 1 + j = omega arith in subst (λ (i : ℕ). is_digit (get_or s i 0) ≡ true) m (digit _ (g.before (suc j) (omega arith))) in
      let r : from + k + length (run_of is_digit (drop (from + k) s)) ≡ from + 1 + length (run_of is_digit (drop (from + 1) s)) =
      subst (λ (i : ℕ). i + length (run_of is_digit (drop i s)) ≡ from + 1 + length (run_of is_digit (drop (from + 1) s))) n
      (digits_so s (from + 1) (k - 1) (omega (arith, g.inside)) f) in
      split (ltb (from + k) (length s))
      (λ t. stopped is_digit s (from + 1) (from + k) r (ltb-true _ _ t) (ap is_digit (sym (get_or-drop from s k 0) ∙ sym ey) ∙ no_digit y e))
      (λ t. ended is_digit s (from + 1) (from + k) r (ltb-false _ _ t))

  -- the first byte is a digit
  some : 0 < k
  some = go k refl
    where
      go : (n : ℕ) → k ≡ n → 0 < k
      go zero e =
          let o : is_other (get_or s (from + k) 0) ≡ false =
          ap (λ (j : ℕ). is_other (get_or s (from + j) 0)) e ∙ ap is_other (sym (get_or-drop from s 0 0) ∙ sym ex) ∙ no_other x d in
          never (let z : true ≡ false = sym (g.stop (omega arith)) ∙ o in cc)
      go (suc n) e = omega arith

  pub digits_told : (x ≡ 0x30 → ⊥) → (0 < k) × (found 3 k ≡ number_at (drop from s))
  digits_told z = (some, told (digits_lead s from x ex z d (from + k) (run some)))
