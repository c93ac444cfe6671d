-- Decimal digits: io's are those of the definition, by the number of digits, the last one split off each time; and they denote the number.
-- Assumes nothing.
use Prim.Native.Nat.{ℕ, zero, suc, ◌+◌, ◌-◌, ◌*◌, ◌/◌, ◌%◌, ◌^◌, ◌≤◌, ◌<◌}
use mathlib.Core.Bool.{true}
use mathlib.Core.List.{List, [], ◌∷◌, ◌++◌}
use mathlib.Core.Path.{◌≡◌, refl, sym, ap, ap₂, subst, ◌∙◌}
use native.Mathlib.Nat.{one-le-pow, pow-le-pow_right}
use native.Mathlib.Omega.{arith}
use borrow.Author.Tests.{lt-ltb, le-ltb, ltb-true, leb-true, leb-false}
use lib.Dec.{ltb, leb}
use lib.ListN.{length, length-append}
use Rattle.io.specs.Digits.{hex_digit_ascii, last_digits, IsDigitCount}
use Rattle.prelude.proofs.Cases.{split}
use Rattle.prelude.proofs.Picks.{pick_true, pick_false, pick_case}
use Rattle.prelude.specs.Pick.{pick}
use Rattle.decimals.specs.Decimals.{nought, decimal_in, decimal, denotes}

glyph_digit : (d : ℕ) → d < 10 → nought + d ≡ hex_digit_ascii d
glyph_digit d h =
    let e : ltb d 10 ≡ true = lt-ltb d 10 h in
    rw e

lowest : (i n : ℕ) → IsDigitCount 10 1 n (suc (suc i)) → 10 ^ suc i ≤ n
lowest i n f =
    let e : suc (suc i) - 1 ≡ suc i = omega arith in
    subst (λ (k : ℕ). 10 ^ k ≤ n) e (f.2 (omega arith))

shorter : (i n : ℕ) → 10 ≤ n → IsDigitCount 10 1 n (suc (suc i)) → IsDigitCount 10 1 (n / 10) (suc i)
shorter i n h f = (
  omega arith,
  omega (arith, f.1),
  λ g. let e : i ≡ suc i - 1 = omega arith in subst (λ (k : ℕ). 10 ^ k ≤ n / 10) e (omega (arith, lowest i n f)),
)

last_digit : (n : ℕ) → nought + n % 10 ≡ hex_digit_ascii (n % 10)
last_digit n = glyph_digit (n % 10) (omega arith)

one_more : {a b : List ℕ} (n : ℕ) → a ≡ b → a ++ ((nought + n % 10) ∷ []) ≡ b ++ (hex_digit_ascii (n % 10) ∷ [])
one_more n e = ap₂ (λ (x : List ℕ) (d : ℕ). x ++ (d ∷ [])) e (last_digit n)

digits_of : (k j n : ℕ) → j ≤ suc k → IsDigitCount 10 1 n j → decimal_in (suc k) n ≡ last_digits 10 j n
unfolding decimal_in
digits_of k zero n h f = absurd (omega (arith, f.0))
digits_of k (suc zero) n h f = one_more n (pick_true _ _ _ (lt-ltb n 10 (omega (arith, f.1))))
digits_of zero (suc (suc i)) n h f = absurd (omega arith)
digits_of (suc k) (suc (suc i)) n h f =
    let g : 10 ≤ n = omega (arith, lowest i n f, one-le-pow i 10 (omega arith)) in
    one_more n (pick_false _ _ _ (le-ltb n 10 g) ∙ digits_of k (suc i) (n / 10) (omega arith) (shorter i n g f))

-- as many digits as are asked for, at most
shortened : (k n : ℕ) → length (decimal_in k n) ≤ k
unfolding decimal_in
shortened zero n = omega arith
shortened (suc k) n =
    let r : length (pick (ltb n 10) [] (decimal_in k (n / 10))) ≤ k = pick_case (λ (x : List ℕ). length x ≤ k) (ltb n 10) [] (decimal_in k (n / 10)) (λ e. omega arith) (λ e. shortened k (n / 10)) in
    omega (arith, r, length-append (pick (ltb n 10) [] (decimal_in k (n / 10))) ((nought + n % 10) ∷ []))

-- a number of 64 bits has at most twenty digits
twenty : (n k : ℕ) → n < 18446744073709551616 → IsDigitCount 10 1 n k → k ≤ 20
twenty n k h f =
    split (leb k 20)
    (λ e. leb-true k 20 e)
    (λ e.
    let g : 20 < k = leb-false k 20 e in
    let p : 10 ^ 20 ≤ 10 ^ (k - 1) = pow-le-pow_right (let z : 0 < 10 = omega arith in z) (let u : 20 ≤ k - 1 = omega arith in u) in
    absurd (omega (arith, p, f.2 (omega arith))))

-- what io puts
pub decimal_put : (n k : ℕ) (t : List ℕ) → n < 18446744073709551616 → IsDigitCount 10 1 n k → t ≡ last_digits 10 k n → decimal n ≡ t
decimal_put n k t h f e = digits_of 19 k n (twenty n k h f) f ∙ sym e

pub decimal_length : (n : ℕ) → length (decimal n) ≤ 20
decimal_length n = shortened 20 n

-- digits behind others
denotes_append : (a : List ℕ) (d n : ℕ) → denotes n (a ++ (d ∷ [])) ≡ 10 * denotes n a + (d - nought)
denotes_append [] d n = refl
denotes_append (x ∷ a) d n = denotes_append a d (10 * n + (x - nought))

denoted : (k n : ℕ) → n < 10 ^ k → denotes 0 (decimal_in k n) ≡ n
unfolding decimal_in
denoted zero n h = omega (arith, h)
denoted (suc k) n h =
    let front : denotes 0 (pick (ltb n 10) [] (decimal_in k (n / 10))) ≡ n / 10 =
    split (ltb n 10)
    (λ e. ap (denotes 0) (pick_true _ _ _ e) ∙ (let z : 0 ≡ n / 10 = omega (arith, ltb-true n 10 e) in z))
    (λ e. ap (denotes 0) (pick_false _ _ _ e) ∙ denoted k (n / 10) (omega (arith, h))) in
    denotes_append (pick (ltb n 10) [] (decimal_in k (n / 10))) (nought + n % 10) 0 ∙ (let z : 10 * denotes 0 (pick (ltb n 10) [] (decimal_in k (n / 10))) + (nought + n % 10 - nought) ≡ n = omega (arith, front) in z)

pub decimal_denotes : (n : ℕ) → n < 10 ^ 20 → denotes 0 (decimal n) ≡ n
decimal_denotes n h = denoted 20 n h
