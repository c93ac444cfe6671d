-- Comparing bytes in a loop: what is compared from a place on is what is compared from the start. The comparisons decide the value.
-- Assumes nothing.
use mathlib.Core.Path.{◌≡◌, refl, sym, ap, ◌∙◌}
use mathlib.Core.Bool.{Bool, true, false, ◌&&◌}
use mathlib.Core.List.{List, [], ◌∷◌}
use Prim.Native.Nat.{ℕ, suc, ◌+◌, ◌≤◌, ◌<◌}
use native.Mathlib.Omega.{arith}
use native.Mathlib.Numerals.{add-one}
use borrow.Author.Tests.{eq-eqb, ne_eqb}
use lib.Dec.{eqb}
use lib.ListN.{length, get_or, drop, drop_of_length-le}
use lib.Seq.{drop-cons}
use Rattle.std.specs.Prelude.{Some, None}
use Rattle.prelude.specs.Pick.{pick}
use Rattle.tokens.specs.Words.{same_bytes, null_word, false_word, true_word, word_value}

pub other_length : (a b : List ℕ) → (length a ≡ length b → ⊥) → false ≡ same_bytes a b
unfolding same_bytes
other_length [] [] ne = absurd (ne refl)
other_length [] (y ∷ t) ne = refl
other_length (x ∷ s) [] ne = refl
other_length (x ∷ s) (y ∷ t) ne = go (eqb x y) (other_length s t (λ e. ne (ap suc e)))
  where
    go : (q : Bool) → false ≡ same_bytes s t → false ≡ q && same_bytes s t
    go true e = e
    go false e = refl

module _ (a b : List ℕ) (i : ℕ) (long : length a ≡ length b) (h : i < length a) (same : same_bytes a b ≡ same_bytes (drop i a) (drop i b)) where
  here : same_bytes (drop i a) (drop i b) ≡ eqb (get_or a i 0) (get_or b i 0) && same_bytes (drop (i + 1) a) (drop (i + 1) b)
  unfolding same_bytes
  here = let l : i < length b = omega arith in rw (drop-cons a i 0 h, drop-cons b i 0 l, add-one i)

  pub one_more : get_or a i 0 ≡ get_or b i 0 → same_bytes a b ≡ same_bytes (drop (i + 1) a) (drop (i + 1) b)
  one_more e = same ∙ here ∙ rw (eq-eqb (get_or a i 0) (get_or b i 0) e)

  pub differs : (get_or a i 0 ≡ get_or b i 0 → ⊥) → false ≡ same_bytes a b
  differs ne = sym (same ∙ here ∙ rw (ne_eqb (get_or a i 0) (get_or b i 0) ne))

pub all_same : (a b : List ℕ) (i : ℕ) → length a ≡ length b → length a ≤ i → same_bytes a b ≡ same_bytes (drop i a) (drop i b) → true ≡ same_bytes a b
unfolding same_bytes
all_same a b i long h same = let l : length b ≤ i = omega arith in sym (same ∙ rw (drop_of_length-le a h, drop_of_length-le b l))

-- the word's value, by the words that it was compared with
module _ (w : List ℕ) (a : Bool) (ea : a ≡ same_bytes w null_word) where
  pub is_null : a ≡ true → Some 0 ≡ word_value w
  unfolding word_value pick
  is_null t = rw (sym ea, t)

  module _ (b : Bool) (eb : b ≡ same_bytes w false_word) (fa : a ≡ false) where
    pub is_false : b ≡ true → Some 1 ≡ word_value w
    unfolding word_value pick
    is_false t = rw (sym ea, fa, sym eb, t)

    module _ (d : Bool) (ed : d ≡ same_bytes w true_word) (fb : b ≡ false) where
      pub is_true : d ≡ true → Some 2 ≡ word_value w
      unfolding word_value pick
      is_true t = rw (sym ea, fa, sym eb, fb, sym ed, t)

      pub is_other_lem : d ≡ false → None ≡ word_value w
      unfolding word_value pick
      is_other_lem t = rw (sym ea, fa, sym eb, fb, sym ed, t)
