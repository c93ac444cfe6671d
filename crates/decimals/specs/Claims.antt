-- What is claimed of decimal digits: each claim is a type, and proofs/Claims.antt has a term of it.
-- Assumes nothing.
use Rattle.std.specs.Prelude.{ℕ, ◌^◌, ◌<◌, ◌≡◌}
use Rattle.decimals.specs.Decimals.{decimal, denotes}

-- a number's digits denote it
abbrev pub DecimalsDenote : Type 0
DecimalsDenote = (n : ℕ) → n < 10 ^ 20 → denotes 0 (decimal n) ≡ n
