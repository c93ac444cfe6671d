-- The lines that are printed for a TSV8 log, one for each cell, row by row.
-- Assumes nothing.
use Rattle.std.specs.Prelude.{ℕ, ◌+◌, ◌/◌, ◌%◌, Bool, List, ltb, length, get_or}
use Rattle.tsv8_cells.specs.Cells.{Cell, cell}
use Rattle.tsv8_claims.specs.Claims.{shown}
use Rattle.entries.specs.Entries.{cell_text}

-- its value is printed as a J8 string: "5, 6 Str"; a number, `true` and `false` as they stand
unfoldable pub is_string : Cell → Bool
is_string c = ltb 4 c.kind

-- what is printed for a cell in a row, under the name of its column
unfoldable pub line_of : List ℕ → List ℕ → ℕ → Cell → Cell → List ℕ
line_of text store row name c = cell_text row (shown text store name) (is_string c) (shown text store c)

-- the line of cell k, from 0, "in reading order": rows count from 1
unfoldable pub line_at : List ℕ → List Cell → List Cell → List ℕ → ℕ → List ℕ
line_at text names cells store k =
    line_of text store (k / length names + 1) (get_or names (k % length names) (cell 0 0 0)) (get_or cells k (cell 0 0 0))
