-- Eight stores one behind another are one store of eight bytes.
-- Assumes nothing.
use Prim.Native.Nat.{ℕ, ◌+◌, ◌≤◌}
use mathlib.Core.List.{List}
use mathlib.Core.Path.{◌≡◌, refl, ap, ◌∙◌}
use native.Mathlib.Omega.{arith}
use lib.ListN.{length, get_or, take, drop, set}
use lib.Seq.{sets, drop-cons}
use Rattle.prelude.proofs.Stores.{copied}

pub eight_stored : (s out : List ℕ) (at o : ℕ) → at + 8 ≤ length s
    → set (set (set (set (set (set (set (set out o (get_or s at 0)) (o + 1) (get_or s (at + 1) 0)) (o + 2) (get_or s (at + 2) 0)) (o + 3) (get_or s (at + 3) 0)) (o + 4) (get_or s (at + 4) 0)) (o + 5) (get_or s (at + 5) 0)) (o + 6) (get_or s (at + 6) 0)) (o + 7) (get_or s (at + 7) 0)
    ≡ sets out o (take 8 (drop at s))
eight_stored s out at o h =
    ap (λ (x : List ℕ). set x (o + 7) (get_or s (at + 7) 0)) (
    ap (λ (x : List ℕ). set x (o + 6) (get_or s (at + 6) 0)) (
    ap (λ (x : List ℕ). set x (o + 5) (get_or s (at + 5) 0)) (
    ap (λ (x : List ℕ). set x (o + 4) (get_or s (at + 4) 0)) (
    ap (λ (x : List ℕ). set x (o + 3) (get_or s (at + 3) 0)) (
    ap (λ (x : List ℕ). set x (o + 2) (get_or s (at + 2) 0)) (
    ap (λ (x : List ℕ). set x (o + 1) (get_or s (at + 1) 0)) (one ∙ refl)
    ∙ copied s out at o 1 (omega arith)) ∙ copied s out at o 2 (omega arith)) ∙ copied s out at o 3 (omega arith)) ∙ copied s out at o 4 (omega arith))
    ∙ copied s out at o 5 (omega arith)) ∙ copied s out at o 6 (omega arith)) ∙ copied s out at o 7 (omega arith)
  where
    one : set out o (get_or s at 0) ≡ sets out o (take 1 (drop at s))
    one = rw (drop-cons s at 0 (omega arith)) refl
