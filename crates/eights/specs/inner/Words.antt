-- Bytes as one number, and tests of each of them: these speak of the code alone, and no rule cites them.
-- Assumes nothing.
use Rattle.std.specs.Prelude.{ℕ, zero, suc, ◌+◌, ◌*◌, ◌^◌, ◌<◌, ◌≤◌, Bool, true, false, ◌≡◌, ltb, eqb}
use Rattle.prelude.specs.Pick.{pick}
use Rattle.utf8.specs.Class.{class_of}

abbrev pub Bytes : (ℕ → ℕ) → ℕ → Type 0
Bytes f n = (k : ℕ) → k < n → f k < 256

-- n bytes, the first lowest
unfoldable pub word : (ℕ → ℕ) → ℕ → ℕ
word f zero = 0
word f (suc n) = f n * 2 ^ (8 * n) + word f n

-- a byte's high bit, where a test holds
abbrev pub bit : Bool → ℕ
bit true = 0x80
bit false = 0

unfoldable pub is_odd : ℕ → Bool
is_odd b = pick (eqb (class_of b) 0) false true

-- no digit: below "0" or above "9"
unfoldable pub is_other : ℕ → Bool
is_other b = pick (ltb b 0x30) true (ltb 0x39 b)

-- the first of n places at which a test holds, n where it holds at none
pub record First (g : ℕ → Bool) (n r : ℕ) : Type 0 where
  pub inside : r ≤ n
  pub before : (k : ℕ) → k < r → g k ≡ false
  pub stop : r < n → g r ≡ true
