-- A test of a byte is computed for every byte, and holds of eight at once by `lanes`.
-- Assumes nothing.
use mathlib.Core.Path.{◌≡◌, refl, ap, ap₂, ◌∙◌, subst}
use mathlib.Core.Bool.{true}
use mathlib.Core.List.{List}
use Prim.Native.Nat.{ℕ, ◌+◌, ◌-◌, ◌*◌, ◌%◌, ◌^◌, ◌<◌, ◌≤◌}
use native.Mathlib.Omega.{arith}
use borrow.Author.Tests.{eqb-true}
use lib.Dec.{eqb, lit≤}
use lib.Bits.{bit_and, bit_or, bit_xor, and_le_r, xor_lt}
use lib.ListN.{length, get_or, take, drop, length-drop}
use lib.Seq.{get_or-drop, take_all}
use lib.Pow.{shl_exact}
use Rattle.prelude.specs.Pick.{pick}
use Rattle.prelude.proofs.Tables.{all_below, at_below}
use Rattle.utf8.specs.Class.{class_of}
use Rattle.eights.specs.inner.Words.{Bytes, word, bit, is_odd, is_other}
use Rattle.eights.proofs.Lanes.{Test, input, mask, both, either, differ, plus, on_byte, on_word, fits, lanes, word_same}

-- the low seven bits, and that they are not those of a byte
abbrev low : Test
low = both input (mask 0x7f)

abbrev isnt : ℕ → Test
isnt b = plus (differ low (mask b)) (mask 0x7f)

abbrev odd : Test
odd = both (either (differ (both (plus low (mask 0x60)) (both (isnt 0x22) (both (isnt 0x27) (isnt 0x5c)))) (mask 0xff)) input) (mask 0x80)

odd_fits : all_below (λ b. fits odd b) 256 ≡ true
odd_fits = refl

odd_is : all_below (λ b. eqb (on_byte odd b) (bit (is_odd b))) 256 ≡ true
unfolding is_odd class_of pick
odd_is = refl

-- a test that fits and gives what a rule says of every byte gives it of eight at once
pub marked : (e : Test) (g : ℕ → ℕ) → all_below (λ b. fits e b) 256 ≡ true → all_below (λ b. eqb (on_byte e b) (g b)) 256 ≡ true
    → (v : ℕ) (f : ℕ → ℕ) → Bytes f 8 → v ≡ word f 8 → on_word e 8 v ≡ word (λ k. g (f k)) 8
marked e g t u v f h q =
    ap (λ (x : ℕ). on_word e 8 x) q
    ∙ lanes e f 8 (λ k l. at_below (λ b. fits e b) 256 t (f k) (h k l))
    ∙ word_same (λ k. on_byte e (f k)) (λ k. g (f k)) 8 (λ k l. eqb-true _ _ (at_below (λ b. eqb (on_byte e b) (g b)) 256 u (f k) (h k l)))

pub odds_law : (v : ℕ) (f : ℕ → ℕ) → Bytes f 8 → v ≡ word f 8
    → bit_and (bit_or (bit_xor (bit_and (bit_and v 0x7f7f7f7f7f7f7f7f + 0x6060606060606060)
    (bit_and (bit_xor (bit_and v 0x7f7f7f7f7f7f7f7f) 0x2222222222222222 + 0x7f7f7f7f7f7f7f7f)
    (bit_and (bit_xor (bit_and v 0x7f7f7f7f7f7f7f7f) 0x2727272727272727 + 0x7f7f7f7f7f7f7f7f)
    (bit_xor (bit_and v 0x7f7f7f7f7f7f7f7f) 0x5c5c5c5c5c5c5c5c + 0x7f7f7f7f7f7f7f7f)))) 0xffffffffffffffff) v) 0x8080808080808080
    ≡ word (λ k. bit (is_odd (f k))) 8
unfolding word
odds_law v f h e = marked odd (λ b. bit (is_odd b)) odd_fits odd_is v f h e

abbrev other : Test
other = both (either (plus (differ low (mask 0x30)) (mask 0x76)) input) (mask 0x80)

other_is : all_below (λ b. eqb (on_byte other b) (bit (is_other b))) 256 ≡ true
unfolding is_other pick
other_is = refl

pub others_law : (v : ℕ) (f : ℕ → ℕ) → Bytes f 8 → v ≡ word f 8
    → bit_and (bit_or (bit_xor (bit_and v 0x7f7f7f7f7f7f7f7f) 0x3030303030303030 + 0x7676767676767676) v) 0x8080808080808080 ≡ word (λ k. bit (is_other (f k))) 8
unfolding word
others_law v f h e = marked other (λ b. bit (is_other b)) refl other_is v f h e

abbrev slash : Test
slash = both (differ (either (isnt 0x5c) input) (mask 0xff)) (mask 0x80)

slash_is : all_below (λ b. eqb (on_byte slash b) (bit (eqb b 0x5c))) 256 ≡ true
slash_is = refl

pub slashes_law : (v : ℕ) (f : ℕ → ℕ) → Bytes f 8 → v ≡ word f 8
    → bit_and (bit_xor (bit_or (bit_xor (bit_and v 0x7f7f7f7f7f7f7f7f) 0x5c5c5c5c5c5c5c5c + 0x7f7f7f7f7f7f7f7f) v) 0xffffffffffffffff) 0x8080808080808080
    ≡ word (λ k. bit (eqb (f k) 0x5c)) 8
unfolding word
slashes_law v f h e = marked slash (λ b. bit (eqb b 0x5c)) refl slash_is v f h e

-- no sum passes 64 bits
low_lt : (v : ℕ) → bit_and v 0x7f7f7f7f7f7f7f7f < 0x8000000000000000
low_lt v = omega (arith, and_le_r v 0x7f7f7f7f7f7f7f7f)

pub room : (v : ℕ) → bit_and v 0x7f7f7f7f7f7f7f7f + 0x6060606060606060 < 0x10000000000000000
room v = omega (arith, low_lt v)

pub room_isnt : (v m : ℕ) → m < 0x8000000000000000 → bit_xor (bit_and v 0x7f7f7f7f7f7f7f7f) m + 0x7f7f7f7f7f7f7f7f < 0x10000000000000000
room_isnt v m h = let l : bit_xor (bit_and v 0x7f7f7f7f7f7f7f7f) m < 0x8000000000000000 = xor_lt 63 _ m (low_lt v) h in omega arith

-- eight bytes as a sum
arrange : (f : ℕ → ℕ) → f 0 + f 1 * 2 ^ 8 + f 2 * 2 ^ 16 + f 3 * 2 ^ 24 + f 4 * 2 ^ 32 + f 5 * 2 ^ 40 + f 6 * 2 ^ 48 + f 7 * 2 ^ 56 ≡ word f 8
unfolding word
arrange f = omega arith

shifted : (x b k : ℕ) → 8 + k ≤ 64 → (b ≡ x) × (b < 256) → b * 2 ^ k % 2 ^ 64 ≡ x * 2 ^ k
shifted x b k l h = shl_exact 8 k 64 h.1 l ∙ ap (λ (y : ℕ). y * 2 ^ k) h.0

and : {a b c d : ℕ} → a ≡ b → c ≡ d → a + c ≡ b + d
and p q = ap₂ (λ (x y : ℕ). x + y) p q

pub sum_is : (f : ℕ → ℕ) (a b c d e g h i : ℕ) → (a ≡ f 0) × (a < 256) → (b ≡ f 1) × (b < 256) → (c ≡ f 2) × (c < 256)
    → (d ≡ f 3) × (d < 256) → (e ≡ f 4) × (e < 256) → (g ≡ f 5) × (g < 256) → (h ≡ f 6) × (h < 256) → (i ≡ f 7) × (i < 256)
    → a + b * 2 ^ 8 % 2 ^ 64 + c * 2 ^ 16 % 2 ^ 64 + d * 2 ^ 24 % 2 ^ 64 + e * 2 ^ 32 % 2 ^ 64 + g * 2 ^ 40 % 2 ^ 64 + h * 2 ^ 48 % 2 ^ 64 + i * 2 ^ 56 % 2 ^ 64
    ≡ word f 8
sum_is f a b c d e g h i p q r t u v w x =
    and (and (and (and (and (and (and p.0
    (shifted _ b 8 (lit≤ tt) q)) (shifted _ c 16 (lit≤ tt) r)) (shifted _ d 24 (lit≤ tt) t)) (shifted _ e 32 (lit≤ tt) u))
    (shifted _ g 40 (lit≤ tt) v)) (shifted _ h 48 (lit≤ tt) w)) (shifted _ i 56 (lit≤ tt) x)
    ∙ arrange f

in_part : (s : List ℕ) (at k : ℕ) → get_or (take (length s - at) (drop at s)) k 0 ≡ get_or s (at + k) 0
in_part s at k =
    ap (λ (l : List ℕ). get_or l k 0) (take_all (length s - at) (drop at s) (let e : length (drop at s) ≡ length s - at = length-drop at s in omega arith))
    ∙ get_or-drop at s k 0

pub of_part : (s : List ℕ) (at r : ℕ) (p : List ℕ) → p ≡ take (length s - at) (drop at s)
    → (r ≡ word (λ k. get_or p k 0) 8) × Bytes (λ k. get_or p k 0) 8
    → (r ≡ word (λ k. get_or s (at + k) 0) 8) × Bytes (λ k. get_or s (at + k) 0) 8
of_part s at r p e h =
    let same : (k : ℕ) → get_or p k 0 ≡ get_or s (at + k) 0 = λ k. ap (λ (l : List ℕ). get_or l k 0) e ∙ in_part s at k in (
      h.0 ∙ word_same (λ k. get_or p k 0) (λ k. get_or s (at + k) 0) 8 (λ k l. same k),
      λ k l. subst (λ (x : ℕ). x < 256) (same k) (h.1 k l),
    )
