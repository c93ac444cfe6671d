-- Bytes side by side in one number: a bit operation works on each byte by itself, and so does a sum that leaves no byte.
-- Assumes nothing.
use mathlib.Core.Path.{◌≡◌, refl, sym, ap, ap₂, ◌∙◌, subst}
use mathlib.Core.Bool.{Bool, true, ◌&&◌}
use Prim.Native.Nat.{ℕ, zero, suc, ◌+◌, ◌*◌, ◌^◌, ◌<◌, ◌≤◌}
use native.Mathlib.Nat.{mul-le-mul_right, suc-mul, add-mul}
use native.Mathlib.Omega.{arith}
use borrow.Author.Tests.{ltb-true, eqb-true, eqb-false}
use lib.Dec.{ltb, eqb, lit<}
use lib.Pow.{pow_pos, pow-add}
use lib.Bits.{bit_and, bit_or, bit_xor, and_block, or_block, xor_block}
use Rattle.prelude.proofs.Cases.{split, and_left, and_right}
use Rattle.eights.specs.inner.Words.{Bytes, word}

fewer : (f : ℕ → ℕ) (n : ℕ) → Bytes f (suc n) → Bytes f n
fewer f n h k l = h k (omega arith)

below : (a p w : ℕ) → a < 256 → w < p → a * p + w < 256 * p
below a p w h l =
    let m : suc a * p ≤ 256 * p = mul-le-mul_right p h in
    let e : suc a * p ≡ a * p + p = suc-mul a p in
    omega arith

power : (n : ℕ) → 2 ^ (8 * suc n) ≡ 256 * 2 ^ (8 * n)
power n =
    let e : 8 * suc n ≡ 8 * n + 8 = omega arith in
    let q : 2 ^ (8 * n + 8) ≡ 2 ^ (8 * n) * 256 = pow-add 2 (8 * n) 8 in
    ap (λ (x : ℕ). 2 ^ x) e ∙ omega arith

pub word_lt : (f : ℕ → ℕ) (n : ℕ) → Bytes f n → word f n < 2 ^ (8 * n)
unfolding word
word_lt f zero h = lit< tt
word_lt f (suc n) h =
    subst (λ (x : ℕ). f n * 2 ^ (8 * n) + word f n < x) (sym (power n))
    (below (f n) (2 ^ (8 * n)) (word f n) (h n (omega arith)) (word_lt f n (fewer f n h)))

pub word_same : (f g : ℕ → ℕ) (n : ℕ) → ((k : ℕ) → k < n → f k ≡ g k) → word f n ≡ word g n
unfolding word
word_same f g zero h = refl
word_same f g (suc n) h = ap₂ (λ (x y : ℕ). x * 2 ^ (8 * n) + y) (h n (omega arith)) (word_same f g n (λ k l. h k (omega arith)))

module _ (op : ℕ → ℕ → ℕ) (none : op 0 0 ≡ 0)
    (block : (k a b r s : ℕ) → r < 2 ^ k → s < 2 ^ k → op (a * 2 ^ k + r) (b * 2 ^ k + s) ≡ op a b * 2 ^ k + op r s) where
  op_lanes : (f g : ℕ → ℕ) (n : ℕ) → Bytes f n → Bytes g n → op (word f n) (word g n) ≡ word (λ k. op (f k) (g k)) n
  unfolding word
  op_lanes f g zero hf hg = none
  op_lanes f g (suc n) hf hg =
      block (8 * n) (f n) (g n) (word f n) (word g n) (word_lt f n (fewer f n hf)) (word_lt g n (fewer g n hg))
      ∙ ap (λ (x : ℕ). op (f n) (g n) * 2 ^ (8 * n) + x) (op_lanes f g n (fewer f n hf) (fewer g n hg))

sum_fields : (a b p u v : ℕ) → (a * p + u) + (b * p + v) ≡ (a + b) * p + (u + v)
sum_fields a b p u v = let e : (a + b) * p ≡ a * p + b * p = add-mul a b p in omega arith

sum_lanes : (f g : ℕ → ℕ) (n : ℕ) → word f n + word g n ≡ word (λ k. f k + g k) n
unfolding word
sum_lanes f g zero = refl
sum_lanes f g (suc n) =
    sum_fields (f n) (g n) (2 ^ (8 * n)) (word f n) (word g n) ∙ ap (λ (x : ℕ). (f n + g n) * 2 ^ (8 * n) + x) (sum_lanes f g n)

-- ---- a test of one byte, and the same of n bytes at once

pub data Test : Type 0 where
  input : Test
  mask : ℕ → Test
  both : Test → Test → Test
  either : Test → Test → Test
  differ : Test → Test → Test
  plus : Test → Test → Test

abbrev pub on_byte : Test → ℕ → ℕ
on_byte input b = b
on_byte (mask m) b = m
on_byte (both x y) b = bit_and (on_byte x b) (on_byte y b)
on_byte (either x y) b = bit_or (on_byte x b) (on_byte y b)
on_byte (differ x y) b = bit_xor (on_byte x b) (on_byte y b)
on_byte (plus x y) b = on_byte x b + on_byte y b

abbrev pub on_word : Test → ℕ → ℕ → ℕ
unfolding word
on_word input n v = v
on_word (mask m) n v = word (λ k. m) n
on_word (both x y) n v = bit_and (on_word x n v) (on_word y n v)
on_word (either x y) n v = bit_or (on_word x n v) (on_word y n v)
on_word (differ x y) n v = bit_xor (on_word x n v) (on_word y n v)
on_word (plus x y) n v = on_word x n v + on_word y n v

-- each part of it is a byte
abbrev pub fits : Test → ℕ → Bool
fits input b = true
fits (mask m) b = true
fits (both x y) b = (ltb (on_byte x b) 256 && ltb (on_byte y b) 256) && (fits x b && fits y b)
fits (either x y) b = (ltb (on_byte x b) 256 && ltb (on_byte y b) 256) && (fits x b && fits y b)
fits (differ x y) b = (ltb (on_byte x b) 256 && ltb (on_byte y b) 256) && (fits x b && fits y b)
fits (plus x y) b = fits x b && fits y b

abbrev Fit : Test → (ℕ → ℕ) → ℕ → Type 0
Fit e f n = (k : ℕ) → k < n → fits e (f k) ≡ true

record Inside (x y : Test) (b : ℕ) : Type 0 where
  low : on_byte x b < 256
  high : on_byte y b < 256
  first : fits x b ≡ true
  second : fits y b ≡ true

inside : (x y : Test) (b : ℕ) → (ltb (on_byte x b) 256 && ltb (on_byte y b) 256) && (fits x b && fits y b) ≡ true → Inside x y b
inside x y b e =
    let l : ltb (on_byte x b) 256 && ltb (on_byte y b) 256 ≡ true = and_left (ltb (on_byte x b) 256 && ltb (on_byte y b) 256) (fits x b && fits y b) e in
    let r : fits x b && fits y b ≡ true = and_right (ltb (on_byte x b) 256 && ltb (on_byte y b) 256) (fits x b && fits y b) e in
    record {
      low = ltb-true (on_byte x b) 256 (and_left (ltb (on_byte x b) 256) (ltb (on_byte y b) 256) l);
      high = ltb-true (on_byte y b) 256 (and_right (ltb (on_byte x b) 256) (ltb (on_byte y b) 256) l);
      first = and_left (fits x b) (fits y b) r;
      second = and_right (fits x b) (fits y b) r;
    }

pub lanes : (e : Test) (f : ℕ → ℕ) (n : ℕ) → Fit e f n → on_word e n (word f n) ≡ word (λ k. on_byte e (f k)) n
unfolding word
lanes input f n h = refl
lanes (mask m) f n h = refl
lanes (both x y) f n h =
    ap₂ bit_and (lanes x f n (λ k l. (inside x y (f k) (h k l)).first)) (lanes y f n (λ k l. (inside x y (f k) (h k l)).second))
    ∙ op_lanes bit_and refl and_block (λ k. on_byte x (f k)) (λ k. on_byte y (f k)) n (λ k l. (inside x y (f k) (h k l)).low) (λ k l. (inside x y (f k) (h k l)).high)
lanes (either x y) f n h =
    ap₂ bit_or (lanes x f n (λ k l. (inside x y (f k) (h k l)).first)) (lanes y f n (λ k l. (inside x y (f k) (h k l)).second))
    ∙ op_lanes bit_or refl or_block (λ k. on_byte x (f k)) (λ k. on_byte y (f k)) n (λ k l. (inside x y (f k) (h k l)).low) (λ k l. (inside x y (f k) (h k l)).high)
lanes (differ x y) f n h =
    ap₂ bit_xor (lanes x f n (λ k l. (inside x y (f k) (h k l)).first)) (lanes y f n (λ k l. (inside x y (f k) (h k l)).second))
    ∙ op_lanes bit_xor refl xor_block (λ k. on_byte x (f k)) (λ k. on_byte y (f k)) n (λ k l. (inside x y (f k) (h k l)).low) (λ k l. (inside x y (f k) (h k l)).high)
lanes (plus x y) f n h =
    ap₂ (λ (p q : ℕ). p + q) (lanes x f n (λ k l. and_left (fits x (f k)) (fits y (f k)) (h k l))) (lanes y f n (λ k l. and_right (fits x (f k)) (fits y (f k)) (h k l)))
    ∙ sum_lanes (λ k. on_byte x (f k)) (λ k. on_byte y (f k)) n

-- ---- none of n bytes

times_none : (a p : ℕ) → 0 < p → a * p ≡ 0 → a ≡ 0
times_none zero p h e = refl
times_none (suc a) p h e = let m : suc a * p ≡ a * p + p = suc-mul a p in absurd (let b : ⊥ = omega arith in b)

pub word_none : (f : ℕ → ℕ) (n : ℕ) → word f n ≡ 0 → (k : ℕ) → k < n → f k ≡ 0
unfolding word
word_none f zero e k h = absurd (let b : ⊥ = omega arith in b)
word_none f (suc n) e k h =
    split (eqb k n)
    (λ q. let z : k ≡ n = eqb-true k n q in rw z (times_none (f n) (2 ^ (8 * n)) (pow_pos (8 * n)) (omega arith)))
    (λ q. let z : (k ≡ n → ⊥) = eqb-false k n q in word_none f n (omega arith) k (omega arith))

pub none_word : (f : ℕ → ℕ) (n : ℕ) → ((k : ℕ) → k < n → f k ≡ 0) → word f n ≡ 0
unfolding word
none_word f zero h = refl
none_word f (suc n) h =
    let e : word f n ≡ 0 = none_word f n (λ k l. h k (omega arith)) in
    rw (h n (omega arith)) (omega arith)
