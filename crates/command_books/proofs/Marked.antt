-- A mark is told by three bytes, one after another.
-- Assumes nothing.
use Rattle.std.proofs.Common.{◌≡◌, ℕ, true, false, eqb, List, get_or, sym, ap, ◌∙◌, eq-eqb, ne_eqb}
use Rattle.std.specs.Prelude.{Some, None}
use Rattle.prelude.proofs.Picks.{pick_true, pick_false}
use Rattle.command_books.specs.Marks.{is_marked, marked_line}

module _ (s : List ℕ) {a : ℕ} (e : a ≡ get_or s 0 0) where
  pub other_first : (a ≡ 0xef → ⊥) → false ≡ is_marked s
  unfolding is_marked
  other_first f = sym (pick_false _ _ _ (ne_eqb (get_or s 0 0) 0xef (λ q. f (e ∙ q))))

  module _ (g : a ≡ 0xef) {b : ℕ} (h : b ≡ get_or s 1 0) where
    pub other_second : (b ≡ 0xbb → ⊥) → false ≡ is_marked s
    unfolding is_marked
    other_second f =
        sym (pick_true _ _ _ (eq-eqb (get_or s 0 0) 0xef (sym e ∙ g)) ∙ pick_false _ _ _ (ne_eqb (get_or s 1 0) 0xbb (λ q. f (h ∙ q))))

    pub third : b ≡ 0xbb → {c : ℕ} → c ≡ get_or s 2 0 → eqb c 0xbf ≡ is_marked s
    unfolding is_marked
    third k {c} m =
        ap (λ (x : ℕ). eqb x 0xbf) m
        ∙ sym (pick_true _ _ _ (eq-eqb (get_or s 0 0) 0xef (sym e ∙ g)) ∙ pick_true _ _ _ (eq-eqb (get_or s 1 0) 0xbb (sym h ∙ k)))

pub marked : (s : List ℕ) (n : ℕ) → is_marked s ≡ true → Some n ≡ marked_line s n
unfolding marked_line
marked s n e = sym (pick_true _ _ _ e)

pub unmarked : (s : List ℕ) (n : ℕ) → is_marked s ≡ false → None ≡ marked_line s n
unfolding marked_line
unmarked s n e = sym (pick_false _ _ _ e)
