-- Where a place of a text stands, as an editor counts: lines from 1, each ended by LF, and characters of a line from 1.
-- Assumes nothing.
use Rattle.std.specs.Prelude.{ℕ, ◌+◌, List, [], ◌∷◌, eqb, take}
use Rattle.prelude.specs.Pick.{pick}
use Rattle.utf8.specs.Utf8.{tail}
use Rattle.positions.specs.declared.Position.{Position}
use Rattle.prelude.specs.Bytes.{LF}

abbrev pub at : ℕ → ℕ → Position
at line column = record { line = line; column = column }

-- the position behind a byte: LF begins a line, and a byte that goes on a character counts with it
unfoldable pub behind_byte : Position → ℕ → Position
behind_byte p x = pick (eqb x LF) (at (p.line + 1) 1) (pick (tail x) p (at p.line (p.column + 1)))

-- the position behind a run of bytes
unfoldable pub behind : Position → List ℕ → Position
behind p [] = p
behind p (x ∷ r) = behind (behind_byte p x) r

-- the position of a place: behind the bytes before it
abbrev pub position_of : List ℕ → ℕ → Position
position_of text place = behind (at 1 1) (take place text)
