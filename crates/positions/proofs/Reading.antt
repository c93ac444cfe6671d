-- The position of a place: what is behind a byte by its cases, and a byte split off the front of what is left.
-- Assumes nothing.
use Prim.Native.Nat.{ℕ, suc, ◌+◌, ◌≤◌, ◌<◌}
use mathlib.Core.Bool.{true, false}
use mathlib.Core.List.{List, ◌∷◌}
use mathlib.Core.Path.{◌≡◌, refl, sym, ap, ◌∙◌}
use native.Mathlib.Omega.{arith}
use borrow.Author.Tests.{eq-eqb, ne_eqb, leb-true, leb-false}
use lib.Dec.{leb}
use Rattle.prelude.proofs.Cases.{split}
use lib.ListN.{length, get_or, take, drop, length-take, drop_of_length-le}
use lib.Seq.{drop-cons, get_or-take}
use Rattle.prelude.proofs.Picks.{pick_true, pick_false}
use Rattle.prelude.specs.Pick.{pick}
use Rattle.utf8.specs.Utf8.{tail}
use Rattle.positions.specs.declared.Position.{Position}
use Rattle.prelude.specs.Bytes.{LF}
use Rattle.positions.specs.Positions.{at, behind_byte, behind, position_of}

-- behind a byte
module _ (p : Position) (x : ℕ) where
  pub behind_end : x ≡ LF → at (p.line + 1) 1 ≡ behind_byte p x
  unfolding behind_byte
  behind_end e = sym (pick_true _ _ _ (eq-eqb x LF e))

  module _ (h : x ≡ LF → ⊥) where
    other : behind_byte p x ≡ pick (tail x) p (at p.line (p.column + 1))
    unfolding behind_byte
    other = pick_false _ _ _ (ne_eqb x LF h)

    pub behind_tail : tail x ≡ true → p ≡ behind_byte p x
    behind_tail e = sym (other ∙ pick_true _ _ _ e)

    pub behind_head : tail x ≡ false → at p.line (p.column + 1) ≡ behind_byte p x
    behind_head e = sym (other ∙ pick_false _ _ _ e)

-- the bytes before a place, from the i-th on, are read from a position
pub record Reading (text : List ℕ) (place : ℕ) (p : Position) (i : ℕ) : Type 0 where
  pub whole : position_of text place ≡ behind p (drop i (take place text))
  pub line : p.line ≤ i + 1
  pub column : p.column ≤ i + 1

pub reading_first : (text : List ℕ) (place : ℕ) → Reading text place (at 1 1) 0
reading_first text place = record { whole = refl; line = omega arith; column = omega arith }

module _ (text : List ℕ) (place : ℕ) (p : Position) (i : ℕ) (r : Reading text place p i) where
  pub reading_next : (q : Position) → i < place → i < length text → q ≡ behind_byte p (get_or text i 0) → q.line ≤ p.line + 1 → q.column ≤ p.column + 1
      → Reading text place q (i + 1)
  unfolding behind
  reading_next q h g e l k =
      let s : drop i (take place text) ≡ get_or text i 0 ∷ drop (suc i) (take place text) = drop-cons (take place text) i 0 (omega (arith, length-take place text)) ∙ ap (λ (x : ℕ). x ∷ drop (suc i) (take place text)) (get_or-take place text i 0 h) in
      let n : suc i ≡ i + 1 = omega arith in
      record {
        whole = r.whole ∙ ap (behind p) s ∙ ap (λ (z : Position). behind z (drop (suc i) (take place text))) (sym e) ∙ ap (λ (z : ℕ). behind q (drop z (take place text))) n;
        line = omega (arith, r.line, l);
        column = omega (arith, r.column, k);
      }

  pub reading_last : (end : ℕ) → (place ≤ length text → end ≡ place) → (length text ≤ place → end ≡ length text) → end ≤ i → p ≡ position_of text place
  unfolding behind
  reading_last end f g h =
      let m : length (take place text) ≤ i =
      split (leb place (length text))
      (λ e. omega (arith, length-take place text, f (leb-true place (length text) e)))
      (λ e. let o : length text < place = leb-false place (length text) e in omega (arith, length-take place text, g (omega arith))) in
      sym (r.whole ∙ ap (behind p) (drop_of_length-le (take place text) m))
