-- Validity of a text in loops: what is left is valid exactly if the whole is, a character or a block of ASCII at a time.
-- Assumes nothing.
use mathlib.Core.Path.{◌≡◌, refl, sym, ap, ◌∙◌, subst}
use mathlib.Core.Bool.{Bool, true, false, ◌||◌}
use mathlib.Core.List.{List}
use Prim.Native.Nat.{ℕ, zero, suc, ◌+◌, ◌-◌, ◌≤◌, ◌<◌}
use native.Mathlib.Omega.{arith}
use borrow.Author.Tests.{ltb-true, ltb-false, leb-false, lt-leb}
use lib.Dec.{ltb, leb}
use lib.ListN.{length, get_or, drop, length-drop, drop_of_length-le}
use lib.Seq.{drop-drop, drop-cons}
use Rattle.prelude.proofs.Blocks.{one_more, one_less}
use Rattle.prelude.proofs.Cases.{split}
use Rattle.prelude.proofs.Rest.{advances}
use Rattle.utf8.specs.Class.{class_of}
use Rattle.utf8.specs.Utf8.{long_len, char_len, valid_from}
use Rattle.utf8.specs.inner.Checks.{AllLow, LowFrom, LowBlocks, ValidAs, ValidUntil}
use Rattle.utf8.proofs.CharSteps.{one_byte, lone_tail, long_char}
use Rattle.utf8.proofs.Characters.{char_le, valid_step, valid_stuck, ascii_len}

-- one byte more of a block
module _ (s : List ℕ) (at n : ℕ) (a : Bool) where
  pub low_more : (a ≡ false → AllLow s at n) → a || leb 0x7f (get_or s (at + n) 0) ≡ false → AllLow s at (n + 1)
  low_more f = one_more (λ k. get_or s (at + k) 0 < 0x7f) a _ n f (leb-false 0x7f (get_or s (at + n) 0))

  pub low_less : (AllLow s at n → a ≡ false) → AllLow s at (n + 1) → a || leb 0x7f (get_or s (at + n) 0) ≡ false
  low_less f = one_less (λ k. get_or s (at + k) 0 < 0x7f) a _ n f (lt-leb 0x7f (get_or s (at + n) 0))

-- a part of such bytes, and bytes up to a part that reaches the end
module _ (s : List ℕ) where
  low_part : (from n at m : ℕ) → from ≤ at → at + m ≤ from + n → AllLow s from n → AllLow s at m
  low_part from n at m h l a k i =
      subst (λ (j : ℕ). get_or s j 0 < 0x7f) (let z : from + (at - from + k) ≡ at + k = omega arith in z) (a (at - from + k) (omega arith))

  low_join : (from mid at n m : ℕ) → from ≤ mid → at ≤ mid → from + n ≤ at + m → AllLow s from (mid - from) → AllLow s at m → AllLow s from n
  low_join from mid at n m h l e a b k i =
      split (ltb (from + k) mid) (λ t. a k (let z : from + k < mid = ltb-true (from + k) mid t in omega arith))
      (λ t. let z : mid ≤ from + k = ltb-false (from + k) mid t in
      subst (λ (j : ℕ). get_or s j 0 < 0x7f) (let y : at + (from + k - at) ≡ from + k = omega arith in y) (b (from + k - at) (omega arith)))

module _ (s : List ℕ) where
  pub here : (at : ℕ) → at ≤ length s → ValidAs s at at
  here at h = record { onward = omega arith; inside = h; same = refl }

  pub further : (from mid at : ℕ) → ValidAs s from mid → ValidAs s mid at → ValidAs s from at
  further from mid at a b = record { onward = omega (arith, a.onward, b.onward); inside = b.inside; same = b.same ∙ a.same }

module _ (s : List ℕ) (from at : ℕ) where
  moved : (n : ℕ) → ValidAs s from at → at < length s → char_len (drop at s) ≡ n → (n ≡ 0 → ⊥) → ValidAs s from (at + n)
  moved n k h e p =
      let l : n ≤ length s - at = rw (e, length-drop at s) at (char_le (drop at s)) in
      let d : drop (char_len (drop at s)) (drop at s) ≡ drop (at + n) s = ap (λ (m : ℕ). drop m (drop at s)) e ∙ drop-drop n at s in
      record {
        onward = omega (arith, k.onward);
        inside = omega (arith, k.inside);
        same = ap (valid_from 0) (sym d) ∙ sym (valid_step (drop at s) (λ z. p (sym e ∙ z))) ∙ k.same;
      }

  ascii_on : ValidAs s from at → at < length s → get_or s at 0 < 0x80 → ValidAs s from (at + 1)
  ascii_on k h a = moved 1 k h (ap char_len (drop-cons s at 0 h) ∙ ascii_len _ _ a) (λ z. omega arith)

block_on : (s : List ℕ) (from n at : ℕ) → ValidAs s from at → at + n ≤ length s → AllLow s at n → ValidAs s from (at + n)
block_on s from zero at k h a = subst (ValidAs s from) (let z : at ≡ at + 0 = omega arith in z) k
block_on s from (suc n) at k h a =
    subst (ValidAs s from) (let z : at + n + 1 ≡ at + suc n = omega arith in z)
    (ascii_on s from (at + n) (block_on s from n at k (omega arith) (λ j l. a j (omega arith))) (omega arith) (omega (arith, a n (omega arith))))

pub low_valid : (s : List ℕ) (from : ℕ) → from ≤ length s → LowFrom s from → ValidAs s from (length s)
low_valid s from h l =
    subst (ValidAs s from) (let z : from + (length s - from) ≡ length s = omega arith in z)
    (block_on s from (length s - from) from (here s from h) (omega arith) l.rest)

-- blocks below DEL, one more; and the whole rest, by where they end
module _ (s : List ℕ) (from n at : ℕ) where
  pub low_on : ValidAs s from at → AllLow s from (at - from) → at + n ≤ length s → AllLow s at n → ValidAs s from (at + n) × AllLow s from (at + n - from)
  low_on k l h a = (block_on s from n at k h a, low_join s from at at (at + n - from) n k.onward (omega arith) (omega (arith, k.onward)) l a)

module _ (s : List ℕ) (from at : ℕ) (b : LowBlocks s from 16 at) where
  pub low_stuck : at + 16 ≤ length s → LowFrom s from → ⊥
  low_stuck h l = b.stop h (low_part s from (length s - from) at 16 b.alike.onward (omega (arith, b.alike.onward)) l.rest)

  pub low_last : 16 ≤ length s → length s < at + 16 → AllLow s (length s - 16) 16 → LowFrom s from
  low_last h l a = record {
    enough = h;
    rest = low_join s from at (length s - 16) (length s - from) 16 b.alike.onward (omega arith) (omega (arith, b.alike.onward, b.alike.inside)) b.low a;
    last = a;
  }

-- the turns of the loop by characters, way by way
module _ (s : List ℕ) (from at k : ℕ) (i : ValidAs s from at) (h : at < length s) (ek : k ≡ class_of (get_or s at 0)) where
  pub one_on : k < 5 → ValidAs s from (at + 1)
  one_on l = moved s from at 1 i h (one_byte s at k h ek l) (λ z. omega arith)

  pub lone_stop : (end : ℕ) → 5 ≤ k → k < 6 → ValidUntil s from end at
  lone_stop end l m = record { alike = i; stop = λ z. lone_tail s at k h ek l m }

  module _ (n : ℕ) (en : n ≡ long_len k (get_or (drop at s) 1 0) (get_or (drop at s) 2 0) (get_or (drop at s) 3 0)) (l : 6 ≤ k) where
    pub cut_stop : (end : ℕ) → n ≡ 0 → ValidUntil s from end at
    cut_stop end z = record { alike = i; stop = λ y. long_char s at k h ek n en l ∙ z }

    pub long_on : (n ≡ 0 → ⊥) → ValidAs s from (at + n)
    long_on z = moved s from at n i h (long_char s at k h ek n en l) z

pub all_on : (s : List ℕ) (from end at : ℕ) → ValidAs s from at → end ≤ at → ValidUntil s from end at
all_on s from end at k h = record { alike = k; stop = λ l. absurd (omega arith) }

-- the whole check
module _ (s : List ℕ) (at : ℕ) (k : ValidAs s 0 at) where
  stuck : at < length s → char_len (drop at s) ≡ 0 → false ≡ valid_from 0 s
  stuck h e = sym (sym k.same ∙ valid_stuck (drop at s) (rw (length-drop at s) (omega arith)) e)

  pub ended : length s ≤ at → true ≡ valid_from 0 s
  unfolding valid_from
  ended h = sym (sym k.same ∙ ap (valid_from 0) (drop_of_length-le s h))

-- a turn of its loop, whatever the blocks' width: blocks of ASCII up to mid, and then the characters that begin before end
module _ {s : List ℕ} {at mid end next : ℕ} (k : ValidAs s 0 at) (a : ValidAs s at mid)
    (b : (end ≤ length s) × (mid < length s → mid < end)) (u : ValidUntil s mid end next) where
  turned : ValidAs s 0 next
  turned = further s 0 mid next (further s 0 at mid k a) u.alike

  pub turn_stuck : next < end → false ≡ valid_from 0 s
  turn_stuck h = stuck s next turned (omega (arith, b.0)) (u.stop h)

  pub turn_on : end ≤ next → ValidAs s 0 next
  turn_on h = turned

  pub turn_less : at < length s → end ≤ next → length s - next < length s - at
  turn_less l h = advances (length s) at mid end next l a.onward b.1 u.alike.onward h u.alike.inside
