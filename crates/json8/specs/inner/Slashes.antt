-- What the reader of strings knows of a backslash: this speaks of the code alone, and no rule cites it.
-- Assumes nothing.
use Rattle.std.specs.Prelude.{ℕ, true, List, ◌≡◌, take}
use Rattle.strings.specs.Read.{accepted, read_token}
use Rattle.json8.specs.Leaves.{slashed}

-- a string that ends has a backslash
abbrev pub Slashed : List ℕ → Type 0
Slashed s = (bs : List ℕ) (e : ℕ) → read_token s ≡ accepted bs e → slashed (take e s) ≡ true
