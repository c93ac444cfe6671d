-- Names and cells as the code has them, three numbers each in a table.
-- Assumes nothing.
use Rattle.std.specs.Prelude.{ℕ, ◌+◌, ◌*◌, ◌/◌, ◌%◌, List, get_or}
use Rattle.tsv8_cells.specs.Cells.{Cell, cell}
use Rattle.command_sheets.specs.Lines.{line_of}

-- the name or cell whose numbers stand from a place on
abbrev pub cell_from : List ℕ → ℕ → Cell
cell_from table at = cell (get_or table at 0) (get_or table (at + 1) 0) (get_or table (at + 2) 0)

-- the line of cell k
unfoldable pub table_line : ℕ → List ℕ → List ℕ → List ℕ → List ℕ → ℕ → List ℕ
table_line columns text names cells store k = line_of text store (k / columns + 1) (cell_from names (3 * (k % columns))) (cell_from cells (3 * k))
