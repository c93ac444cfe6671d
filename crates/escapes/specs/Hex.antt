-- Hex digits: "Hex digits may be of either case."
-- Assumes nothing.
use Rattle.std.specs.Prelude.{ℕ, zero, suc, ◌+◌, ◌-◌, ◌*◌, List, [], ◌∷◌, ◌<◌, ◌≡◌, ltb, leb, length, Option, Some, None}
use Prim.Native.Char.{code}
use Rattle.prelude.specs.Pick.{pick}

-- the value of a digit, 16 where it is none
unfoldable pub hex_val : ℕ → ℕ
hex_val c =
    pick (ltb c (code "0")) 16
    (pick (leb c (code "9")) (c - code "0")
    (pick (ltb c (code "A")) 16
    (pick (leb c (code "F")) (c - code "A" + 10)
    (pick (ltb c (code "a")) 16
    (pick (leb c (code "f")) (c - code "a" + 10) 16)))))

-- the code's digit has that value
abbrev pub IsDigit : Option ℕ → ℕ → Type 0
IsDigit (Some d) v = (d < 16) × (d ≡ v)
IsDigit None v = v ≡ 16

-- the digits that stand first, k at most
unfoldable pub hex_digits : ℕ → List ℕ → List ℕ
hex_digits zero r = []
hex_digits (suc k) [] = []
hex_digits (suc k) (c ∷ r) = pick (ltb (hex_val c) 16) (c ∷ hex_digits k r) []

-- the number of these digits behind the digits of v
unfoldable pub hex_from : ℕ → List ℕ → ℕ
hex_from v [] = v
hex_from v (c ∷ r) = hex_from (v * 16 + hex_val c) r

-- how many digits stand first, k at most, and their number
abbrev pub hex_run : ℕ → List ℕ → ℕ
hex_run k r = length (hex_digits k r)

abbrev pub hex_number : ℕ → List ℕ → ℕ
hex_number k r = hex_from 0 (hex_digits k r)
