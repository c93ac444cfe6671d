-- A line is looked for byte by byte: it is the line of those that are left, from a place on.
-- Assumes nothing.
use Prim.Native.Nat.{ℕ, suc, ◌+◌, ◌-◌, ◌≤◌, ◌<◌}
use mathlib.Core.List.{List, [], ◌∷◌}
use mathlib.Core.Path.{◌≡◌, refl, sym, ap, ◌∙◌}
use native.Mathlib.Numerals.{add-one}
use native.Mathlib.Omega.{arith}
use borrow.Author.Tests.{eq-eqb, ne_eqb}
use lib.Dec.{eqb}
use lib.ListN.{length, get_or, take, drop, drop_of_length-le}
use lib.Seq.{drop-cons}
use Rattle.prelude.proofs.Picks.{pick_true, pick_false}
use Rattle.prelude.specs.Bytes.{LF}
use Rattle.prelude.specs.Pick.{pick}
use Rattle.line_ends.specs.inner.Ends.{line_run}
use Rattle.sentences.specs.inner.Lines.{from_line, first_line}
use Rattle.command_texts.specs.Texts.{line_in}

pub record Looking (s : List ℕ) (n left i : ℕ) : Type 0 where
  pub inside : i ≤ length s
  pub same : from_line [] s n ≡ from_line [] (drop i s) left

pub looking_first : (s : List ℕ) (n : ℕ) → Looking s n n 0
looking_first s n = record { inside = omega arith; same = refl }

module _ (s : List ℕ) (n left i : ℕ) (l : Looking s n left i) where
  pub looking_end : length s ≤ i → drop (length s) s ≡ from_line [] s n
  unfolding from_line
  looking_end h =
      let e : drop i s ≡ [] = drop_of_length-le s h in
      let f : drop (length s) s ≡ [] = drop_of_length-le s (let z : length s ≤ length s = omega arith in z) in
      f ∙ sym (l.same ∙ ap (λ (t : List ℕ). from_line [] t left) e)

  module _ (h : i < length s) where
    here : drop i s ≡ get_or s i 0 ∷ drop (i + 1) s
    here = rw add-one (drop-cons s i 0 h)

    pub looking_found : left ≡ 0 → drop i s ≡ from_line [] s n
    unfolding from_line
    looking_found z = sym (l.same ∙ ap (from_line [] (drop i s)) z ∙ ap (λ (t : List ℕ). from_line [] t 0) here ∙ sym here)

    module _ (f : left ≡ 0 → ⊥) where
      step : from_line [] s n ≡ pick (eqb (get_or s i 0) LF) (from_line [] (drop (i + 1) s) (left - 1)) (from_line [] (drop (i + 1) s) (suc (left - 1)))
      unfolding from_line
      step =
          let e : left ≡ suc (left - 1) = omega (arith, f) in
          l.same ∙ ap (from_line [] (drop i s)) e ∙ ap (λ (t : List ℕ). from_line [] t (suc (left - 1))) here

      pub looking_line : get_or s i 0 ≡ LF → Looking s n (left - 1) (i + 1)
      looking_line e = record { inside = omega arith; same = step ∙ pick_true _ _ _ (eq-eqb _ LF e) }

      pub looking_byte : (get_or s i 0 ≡ LF → ⊥) → Looking s n left (i + 1)
      looking_byte g =
          let e : suc (left - 1) ≡ left = omega (arith, f) in
          record { inside = omega arith; same = step ∙ pick_false _ _ _ (ne_eqb _ LF g) ∙ ap (from_line [] (drop (i + 1) s)) e }

-- the bytes from one place to the other are the line
pub line_between : (s : List ℕ) (n at end : ℕ) → drop at s ≡ from_line [] s n → end ≡ at + line_run (drop at s) → line_in s n ≡ take (end - at) (drop at s)
line_between s n at end e f =
    let k : end - at ≡ line_run (drop at s) = omega (arith, f) in
    sym (ap (λ (m : ℕ). take m (drop at s)) k ∙ ap first_line e)
