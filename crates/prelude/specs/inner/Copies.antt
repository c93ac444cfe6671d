-- What the parts of a copy promise each other: this speaks of the code alone, and no rule cites it.
-- Assumes nothing.
use Rattle.std.specs.Prelude.{ℕ, List, ◌≡◌, take}
use Rattle.std.proofs.lemmas.List.Edits.{sets}

-- where the first i bytes of a run stood at o, over whatever buffer, its first j stand now
abbrev pub Further : List ℕ → ℕ → ℕ → ℕ → List ℕ → List ℕ → Type 0
Further x o i j out new = (t : List ℕ) → out ≡ sets t o (take i x) → new ≡ sets t o (take j x)
