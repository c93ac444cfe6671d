-- The zeros below the lowest set bit of bytes that are 0 or 128 each tell the first that isn't 0.
-- Assumes nothing.
use mathlib.Core.Path.{◌≡◌, refl, sym, ap, ap₂, ◌∙◌, subst}
use mathlib.Core.Bool.{Bool, false}
use Prim.Native.Nat.{ℕ, zero, suc, ◌+◌, ◌*◌, ◌/◌, ◌%◌, ◌^◌, ◌<◌, ◌≤◌}
use native.Mathlib.Omega.{arith}
use lib.Count.{count_trailing_zeros, under, trailing_le}
use lib.Pow.{pow-add}
use native.Mathlib.Nat.{mul_assoc}
use Rattle.prelude.proofs.Cases.{split}
use Rattle.eights.specs.inner.Words.{word, bit, First}

-- the first byte is the lowest
word_low : (f : ℕ → ℕ) (n : ℕ) → word f (suc n) ≡ word (λ k. f (suc k)) n * 256 + f 0
unfolding word
word_low f zero = omega arith
word_low f (suc n) =
    let e : word f (suc n) ≡ word (λ k. f (suc k)) n * 256 + f 0 = word_low f n in
    let p : 2 ^ (8 * suc n) ≡ 2 ^ (8 * n) * 256 = ap (λ (x : ℕ). 2 ^ x) (let q : 8 * suc n ≡ 8 * n + 8 = omega arith in q) ∙ pow-add 2 (8 * n) 8 in
    let m : f (suc n) * 2 ^ (8 * suc n) ≡ f (suc n) * 2 ^ (8 * n) * 256 = ap (λ (x : ℕ). f (suc n) * x) p ∙ sym (mul_assoc (f (suc n)) (2 ^ (8 * n)) 256) in
    ap₂ (λ (x y : ℕ). x + y) m e ∙ omega arith

even : (k m n : ℕ) → n ≡ m * 2 → count_trailing_zeros (suc k) n ≡ suc (count_trailing_zeros k m)
unfolding count_trailing_zeros
even k m n e =
    ap₂ (λ (x y : ℕ). under x (count_trailing_zeros k y)) (let h : n % 2 ≡ 0 = omega arith in h) (let h : n / 2 ≡ m = omega arith in h)

uneven : (k n : ℕ) → n % 2 ≡ 1 → count_trailing_zeros (suc k) n ≡ 0
unfolding count_trailing_zeros
uneven k n e = ap (λ (x : ℕ). under x (count_trailing_zeros k (n / 2))) e

seven : (k a n : ℕ) → n ≡ a * 128 → count_trailing_zeros (suc (suc (suc (suc (suc (suc (suc k))))))) n ≡ suc (suc (suc (suc (suc (suc (suc (count_trailing_zeros k a)))))))
seven k a n e =
    even _ (a * 64) n (omega arith)
    ∙ ap suc (even _ (a * 32) (a * 64) (omega arith)
    ∙ ap suc (even _ (a * 16) (a * 32) (omega arith)
    ∙ ap suc (even _ (a * 8) (a * 16) (omega arith)
    ∙ ap suc (even _ (a * 4) (a * 8) (omega arith)
    ∙ ap suc (even _ (a * 2) (a * 4) (omega arith)
    ∙ ap suc (even _ a (a * 2) (omega arith)))))))

eight_none : (k a n : ℕ) → n ≡ a * 256 + 0 → count_trailing_zeros (suc (suc (suc (suc (suc (suc (suc (suc k)))))))) n ≡ 8 + count_trailing_zeros k a
eight_none k a n e =
    let p = seven (suc k) (a * 2) n (omega arith) in
    let q : count_trailing_zeros (suc k) (a * 2) ≡ suc (count_trailing_zeros k a) = even k a (a * 2) refl in
    omega arith

eight_some : (k a n : ℕ) → n ≡ a * 256 + 128 → count_trailing_zeros (suc (suc (suc (suc (suc (suc (suc (suc k)))))))) n ≡ 7
eight_some k a n e =
    let p = seven (suc k) (a * 2 + 1) n (omega arith) in
    let q : count_trailing_zeros (suc k) (a * 2 + 1) ≡ 0 = uneven k (a * 2 + 1) (omega arith) in
    omega arith

eights : (n : ℕ) → 8 * suc n ≡ suc (suc (suc (suc (suc (suc (suc (suc (8 * n))))))))
eights n = omega arith

pub first : (n : ℕ) (g : ℕ → Bool) → First g n (count_trailing_zeros (8 * n) (word (λ k. bit (g k)) n) / 8)
first zero g =
    let z : count_trailing_zeros 0 (word (λ k. bit (g k)) 0) ≤ 0 = trailing_le 0 (word (λ k. bit (g k)) 0) in
    record { inside = omega arith; before = λ k l. absurd (let y : ⊥ = omega arith in y); stop = λ l. absurd (let y : ⊥ = omega arith in y) }
first (suc n) g =
    let ih = first n (λ k. g (suc k)) in
    let e : word (λ k. bit (g k)) (suc n) ≡ word (λ k. bit (g (suc k))) n * 256 + bit (g 0) = word_low (λ k. bit (g k)) n in
    split (g 0)
    (λ q. let z : bit (g 0) ≡ 128 = ap bit q in
    let t : count_trailing_zeros (8 * suc n) (word (λ k. bit (g k)) (suc n)) ≡ 7
    = ap (λ (x : ℕ). count_trailing_zeros x (word (λ k. bit (g k)) (suc n))) (eights n) ∙ eight_some (8 * n) (word (λ k. bit (g (suc k))) n) _ (omega arith) in
    let u : count_trailing_zeros (8 * suc n) (word (λ k. bit (g k)) (suc n)) / 8 ≡ 0 = omega arith in
    subst (λ (x : ℕ). First g (suc n) x) (sym u) (record { inside = omega arith; before = λ k l. absurd (let y : ⊥ = omega arith in y); stop = λ l. q }))
    (λ q. let z : bit (g 0) ≡ 0 = ap bit q in
    let t : count_trailing_zeros (8 * suc n) (word (λ k. bit (g k)) (suc n)) ≡ 8 + count_trailing_zeros (8 * n) (word (λ k. bit (g (suc k))) n)
    = ap (λ (x : ℕ). count_trailing_zeros x (word (λ k. bit (g k)) (suc n))) (eights n) ∙ eight_none (8 * n) (word (λ k. bit (g (suc k))) n) _ (omega arith) in
    let u : count_trailing_zeros (8 * suc n) (word (λ k. bit (g k)) (suc n)) / 8 ≡ suc (count_trailing_zeros (8 * n) (word (λ k. bit (g (suc k))) n) / 8) = omega arith in
    subst (λ (x : ℕ). First g (suc n) x) (sym u) (later g n _ q ih))
  where
    later : (g : ℕ → Bool) (n r : ℕ) → g 0 ≡ false → First (λ k. g (suc k)) n r → First g (suc n) (suc r)
    later g n r p h = record { inside = omega (arith, h.inside); before = go; stop = λ l. h.stop (omega arith) }
      where
        go : (k : ℕ) → k < suc r → g k ≡ false
        go zero l = p
        go (suc k) l = h.before k (omega arith)

pub tz_fits : (w : ℕ) → count_trailing_zeros 64 w / 8 < 0x10000000000000000
tz_fits w = omega (arith, trailing_le 64 w)
