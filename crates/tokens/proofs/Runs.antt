-- Runs of bytes that pass a test: by induction on the text; a loop keeps what it has passed and the run behind it equal to the whole run.
-- Assumes nothing.
use mathlib.Core.Path.{◌≡◌, refl, ap}
use mathlib.Core.Bool.{Bool, true, false}
use mathlib.Core.List.{List, [], ◌∷◌}
use Prim.Native.Nat.{ℕ, suc, ◌+◌, ◌≤◌, ◌<◌}
use native.Mathlib.Omega.{arith}
use native.Mathlib.Numerals.{add-one}
use lib.ListN.{length, get_or, take, drop, length-drop}
use lib.Seq.{drop-cons}
use Rattle.prelude.specs.Pick.{pick}
use Rattle.prelude.proofs.Cases.{split}
use Rattle.tokens.specs.Words.{run_of}

module _ (f : ℕ → Bool) where
  pub run_more : (x : ℕ) (r : List ℕ) → f x ≡ true → run_of f (x ∷ r) ≡ x ∷ run_of f r
  unfolding run_of pick
  run_more x r e = rw e

  pub run_none : (x : ℕ) (r : List ℕ) → f x ≡ false → run_of f (x ∷ r) ≡ []
  unfolding run_of pick
  run_none x r e = rw e

  pub run_le : (r : List ℕ) → length (run_of f r) ≤ length r
  unfolding run_of
  run_le [] = omega arith
  run_le (x ∷ r) =
      split (f x) (λ e. rw (run_more x r e) (omega (arith, run_le r))) (λ e. rw (run_none x r e) (omega arith))

  pub run_take : (r : List ℕ) → run_of f r ≡ take (length (run_of f r)) r
  unfolding run_of
  run_take [] = refl
  run_take (x ∷ r) =
      split (f x) (λ e. rw (run_more x r e) (ap (λ (l : List ℕ). x ∷ l) (run_take r))) (λ e. rw (run_none x r e))

  module _ (s : List ℕ) where
    abbrev pub behind : ℕ → ℕ
    behind i = length (run_of f (drop i s))

    pub inside : (i : ℕ) → i ≤ length s → i + behind i ≤ length s
    inside i h = omega (arith, run_le (drop i s), length-drop i s)

    pub one_more : (from i : ℕ) → i + behind i ≡ from + behind from → i < length s → f (get_or s i 0) ≡ true
        → i + 1 + behind (i + 1) ≡ from + behind from
    one_more from i e h t =
        let d : behind i ≡ suc (behind (i + 1)) =
        rw (drop-cons s i 0 h, add-one i, run_more (get_or s i 0) (drop (suc i) s) t) in omega arith

    pub stopped : (from i : ℕ) → i + behind i ≡ from + behind from → i < length s → f (get_or s i 0) ≡ false
        → i ≡ from + behind from
    stopped from i e h t =
        let d : behind i ≡ 0 = rw (drop-cons s i 0 h, run_none (get_or s i 0) (drop (suc i) s) t) in omega arith

    pub ended : (from i : ℕ) → i + behind i ≡ from + behind from → length s ≤ i → i ≡ from + behind from
    ended from i e h = omega (arith, run_le (drop i s), length-drop i s)
