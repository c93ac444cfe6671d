-- Bytes that stand in a buffer at a place, and parts of them.
-- Assumes nothing.
use Prim.Native.Nat.{ℕ, suc, ◌+◌, ◌≤◌}
use native.Mathlib.Numerals.{add-one}
use native.Mathlib.Omega.{arith}
use mathlib.Core.List.{List, [], ◌∷◌, ◌++◌, append_assoc}
use mathlib.Core.Path.{◌≡◌, sym, ap, ◌∙◌}
use lib.ListN.{length, take, drop, length-append, length-drop}
use lib.Seq.{drop-drop, drop-append-le, take-append-le, drop-append_seam, take-append_seam}

pub record Stands (s : List ℕ) (p : ℕ) (x : List ℕ) : Type 0 where
  pub rest : List ℕ
  pub inside : p ≤ length s
  pub same : drop p s ≡ x ++ rest

pub stands_in : {s : List ℕ} {p : ℕ} {x : List ℕ} → Stands s p x → p + length x ≤ length s
stands_in {s} {p} {x} a = omega (arith, a.inside, length-drop p s, ap length a.same, length-append x a.rest)

pub stands_take : {s : List ℕ} {p : ℕ} {x : List ℕ} → Stands s p x → take (length x) (drop p s) ≡ x
stands_take {s} {p} {x} a = ap (take (length x)) a.same ∙ take-append_seam x a.rest

pub stands_left : {s : List ℕ} {p : ℕ} (x y : List ℕ) → Stands s p (x ++ y) → Stands s p x
stands_left x y a = record { rest = y ++ a.rest; inside = a.inside; same = a.same ∙ append_assoc x y a.rest }

pub stands_right : {s : List ℕ} {p : ℕ} (x y : List ℕ) → Stands s p (x ++ y) → Stands s (p + length x) y
stands_right {s} {p} x y a =
    record {
      rest = a.rest;
      inside = stands_in (stands_left x y a);
      same =
          sym (drop-drop (length x) p s) ∙ ap (drop (length x)) (a.same ∙ append_assoc x y a.rest) ∙ drop-append_seam x (y ++ a.rest);
    }

pub stands_next : {s : List ℕ} {p : ℕ} (x : ℕ) (y : List ℕ) → Stands s p (x ∷ y) → Stands s (suc p) y
stands_next {s} {p} x y a = rw (add-one p) at (stands_right (x ∷ []) y a)

-- a part of them
pub stands_part : {s : List ℕ} {p : ℕ} {x : List ℕ} (k n : ℕ) → Stands s p x → k + n ≤ length x → take n (drop (p + k) s) ≡ take n (drop k x)
stands_part {s} {p} {x} k n a h =
    ap (take n) (sym (drop-drop k p s) ∙ ap (drop k) a.same ∙ drop-append-le k x a.rest (omega arith))
    ∙ take-append-le n (drop k x) a.rest (omega (arith, length-drop k x))
