-- The lines of a text: what the functions that find one of them promise each other.
-- Assumes nothing.
use Rattle.std.specs.Prelude.{ℕ, zero, suc, List, [], ◌∷◌, eqb, take}
use Rattle.prelude.specs.Pick.{pick}
use Rattle.line_ends.specs.inner.Ends.{line_run}
use Rattle.prelude.specs.Bytes.{LF}

-- a text from its line n on, from 0, or another one where it has no such line
unfoldable pub from_line : List ℕ → List ℕ → ℕ → List ℕ
from_line other [] n = other
from_line other (x ∷ r) zero = x ∷ r
from_line other (x ∷ r) (suc n) = pick (eqb x LF) (from_line other r n) (from_line other r (suc n))

-- the first line of a text
abbrev pub first_line : List ℕ → List ℕ
first_line s = take (line_run s) s

-- line n of a text, or its first where it has no such line
abbrev pub line_of : List ℕ → ℕ → List ℕ
line_of s n = first_line (from_line s s n)
