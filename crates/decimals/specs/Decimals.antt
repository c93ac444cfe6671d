-- Numbers as they are printed, in ASCII.
-- Assumes nothing.
use Rattle.std.specs.Prelude.{ℕ, zero, suc, ◌+◌, ◌-◌, ◌*◌, ◌/◌, ◌%◌, List, [], ◌∷◌, ◌++◌, ltb}
use Rattle.prelude.specs.Pick.{pick}

-- the byte of the digit 0; those of the others follow it
abbrev pub nought : ℕ
nought = 0x30

-- a number in at most so many decimal digits: those before the last one, if there are any, and the last
unfoldable pub decimal_in : ℕ → ℕ → List ℕ
decimal_in zero n = []
decimal_in (suc k) n = pick (ltb n 10) [] (decimal_in k (n / 10)) ++ ((nought + n % 10) ∷ [])

-- a number of 64 bits has at most twenty digits
abbrev pub decimal : ℕ → List ℕ
decimal n = decimal_in 20 n

-- the number that decimal digits denote behind those of a number already read
abbrev pub denotes : ℕ → List ℕ → ℕ
denotes n [] = n
denotes n (x ∷ r) = denotes (10 * n + (x - nought)) r
