-- Strong induction on a list: what holds of the empty list, and of a list whenever it holds of every end of its tail, holds of all.
-- Assumes nothing.
use Prim.Native.Nat.{ℕ, zero, suc}
use mathlib.Core.List.{List, [], ◌∷◌}
use lib.ListN.{drop}

module _ (P : List ℕ → Type 0) (none : P []) (one : (x : ℕ) (r : List ℕ) → ((k : ℕ) → P (drop k r)) → P (x ∷ r)) where
  at_drop : (s : List ℕ) (k : ℕ) → P (drop k s)
  at_drop [] zero = none
  at_drop [] (suc k) = none
  at_drop (x ∷ r) zero = one x r (at_drop r)
  at_drop (x ∷ r) (suc k) = at_drop r k

  pub by_suffix : (s : List ℕ) → P s
  by_suffix s = at_drop s 0
