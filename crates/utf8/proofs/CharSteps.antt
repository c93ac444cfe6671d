-- The character check in code, place by place: the definition's decision list, with the class of the byte that stands there.
-- Assumes nothing.
use mathlib.Core.Path.{◌≡◌, refl, sym, ap, ◌∙◌}
use mathlib.Core.List.{List}
use Prim.Native.Nat.{ℕ, zero, suc, ◌≤◌, ◌<◌}
use native.Mathlib.Omega.{arith}
use borrow.Author.Tests.{lt-ltb, le-ltb}
use lib.ListN.{length, get_or, drop, drop_of_length-le}
use lib.Seq.{drop-cons}
use Rattle.std.specs.Prelude.{Some, Ok, Err}
use Rattle.prelude.specs.Pick.{pick}
use Rattle.prelude.specs.Refusals.{utf8_incomplete}
use Rattle.utf8.specs.Class.{class_of}
use Rattle.utf8.specs.Utf8.{four_bytes, long_len, len_by, char_len, char_fault, refused_by, char_at}

pub four_way : (k b c d x y z v : ℕ) → v ≡ four_bytes k x y z → x ≡ b → y ≡ c → z ≡ d → 10 ≤ k → k < 13 → v ≡ long_len k b c d
unfolding long_len pick
four_way k b c d x y z v e p q r l m = rw (le-ltb k 7 (omega arith), le-ltb k 10 l, lt-ltb k 13 m, ← p, ← q, ← r) e

pub char_end : (s : List ℕ) (at : ℕ) → length s ≤ at → char_len (drop at s) ≡ 0
unfolding char_len
char_end s at h = rw (drop_of_length-le s h)

module _ (s : List ℕ) (at k : ℕ) (h : at < length s) (ek : k ≡ class_of (get_or s at 0)) where
  abbrev long : ℕ
  long = long_len k (get_or (drop at s) 1 0) (get_or (drop at s) 2 0) (get_or (drop at s) 3 0)

  len_is : char_len (drop at s) ≡ len_by k (get_or (drop at s) 1 0) (get_or (drop at s) 2 0) (get_or (drop at s) 3 0)
  unfolding char_len
  len_is = rw (drop-cons s at 0 h, ← ek)

  pub one_byte : k < 5 → char_len (drop at s) ≡ 1
  unfolding len_by pick
  one_byte l = len_is ∙ rw (lt-ltb k 5 l)

  pub lone_tail : 5 ≤ k → k < 6 → char_len (drop at s) ≡ 0
  unfolding len_by pick
  lone_tail l m = len_is ∙ rw (le-ltb k 5 l, lt-ltb k 6 m)

  pub long_char : (n : ℕ) → n ≡ long → 6 ≤ k → char_len (drop at s) ≡ n
  unfolding len_by pick
  long_char n e l = len_is ∙ rw (le-ltb k 5 (omega arith), le-ltb k 6 l) (sym e)

pub refused_lem : (r : List ℕ) → char_len r ≡ 0 → refused_by (char_fault r) ≡ char_at r
refused_lem r e = rw e

good : (r : List ℕ) (n : ℕ) → char_len r ≡ n → (n ≡ 0 → ⊥) → Ok n ≡ char_at r
good r zero e h = absurd (h refl)
good r (suc n) e h = rw e

-- the answers of the check, way by way
pub fault_end : (s : List ℕ) (at : ℕ) → length s ≤ at → Some utf8_incomplete ≡ char_fault (drop at s)
unfolding char_fault
fault_end s at h = rw (drop_of_length-le s h)

pub at_end_lem : (s : List ℕ) (at : ℕ) → length s ≤ at → Err utf8_incomplete ≡ char_at (drop at s)
at_end_lem s at h = ap refused_by (fault_end s at h) ∙ refused_lem (drop at s) (char_end s at h)

module _ (s : List ℕ) (at k : ℕ) (h : at < length s) (ek : k ≡ class_of (get_or s at 0)) where
  pub is_one : k < 5 → Ok 1 ≡ char_at (drop at s)
  is_one l = good (drop at s) 1 (one_byte s at k h ek l) (λ z. omega arith)

  -- what has several bytes: its length, or what it is refused for
  pub lone_is : 5 ≤ k → k < 6 → refused_by (char_fault (drop at s)) ≡ char_at (drop at s)
  lone_is l m = refused_lem (drop at s) (lone_tail s at k h ek l m)

  module _ (n : ℕ) (en : n ≡ long s at k h ek) (l : 6 ≤ k) where
    pub cut_is : n ≡ 0 → refused_by (char_fault (drop at s)) ≡ char_at (drop at s)
    cut_is z = refused_lem (drop at s) (long_char s at k h ek n en l ∙ z)

    pub long_is : (n ≡ 0 → ⊥) → Ok n ≡ char_at (drop at s)
    long_is z = good (drop at s) n (long_char s at k h ek n en l) z
