-- A block of bytes, tested without an early end: what is known of the bytes tested so far, and of one more.
-- Assumes nothing.
use Prim.Native.Nat.{ℕ, ◌+◌, ◌<◌}
use mathlib.Core.Bool.{Bool, false, ◌||◌}
use mathlib.Core.Path.{◌≡◌}
use native.Mathlib.Omega.{arith}
use borrow.Author.Count.{below_more}
use Rattle.prelude.proofs.Cases.{or_left, or_right, or_none}

-- nothing was found: all bytes are so, and conversely
pub one_more : (P : ℕ → Type 0) (a b : Bool) (n : ℕ) → (a ≡ false → (k : ℕ) → k < n → P k) → (b ≡ false → P n) → a || b ≡ false
    → (k : ℕ) → k < n + 1 → P k
one_more P a b n f g e = below_more P n (f (or_left a b e)) (g (or_right a b e))

pub one_less : (P : ℕ → Type 0) (a b : Bool) (n : ℕ) → (((k : ℕ) → k < n → P k) → a ≡ false) → (P n → b ≡ false) → ((k : ℕ) → k < n + 1 → P k)
    → a || b ≡ false
one_less P a b n f g h = or_none a b (f (λ k l. h k (omega arith))) (g (h n (omega arith)))
