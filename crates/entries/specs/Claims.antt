-- What is claimed of the lines that are printed for strings and cells: each claim is a type, and proofs/Claims.antt has a term of it.
-- Assumes nothing.
use Rattle.std.specs.Prelude.{ℕ, Bool, false, List, ◌≡◌}
use Rattle.sentences.specs.Claims.{InOneLine}
use Rattle.messages.specs.Claims.{OneLine}
use Rattle.entries.specs.Entries.{entry_text, cell_text}

-- so scripts can go by lines, whatever bytes a string has
abbrev pub EntriesAreLines : Type 0
EntriesAreLines = (n : ℕ) (s : List ℕ) → OneLine (entry_text n s)

-- the same of cells; a number, `true` and `false` have no control byte
abbrev pub CellsAreLines : Type 0
CellsAreLines = (row : ℕ) (name : List ℕ) (quoted : Bool) (value : List ℕ) → (quoted ≡ false → InOneLine value) → OneLine (cell_text row name quoted value)
