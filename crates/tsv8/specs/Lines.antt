-- The lines after the first: data lines, and those that begin with `!`.
-- Assumes nothing.
use Rattle.std.specs.Prelude.{ℕ, Bool, true, false, List, [], ◌∷◌, eqb, length}
use Prim.Native.Char.{code}
use Rattle.prelude.specs.Bytes.{ascii}
use Rattle.prelude.specs.Pick.{pick}
use Rattle.prelude.specs.Refusals.{bad_header, bad_line}
use Rattle.tokens.specs.Words.{same_bytes}
use Rattle.tsv8_cells.specs.Parts.{Line}
use Rattle.tsv8_cells.specs.declared.columns.ColumnType.{ColumnType}
use Rattle.tsv8_cells.specs.Cells.{Cells, got, refused, chain, cells_of}

-- what a line after the first is, by what stands before its first tab: "A data line begins with a tab"; `!type`; "other `!` lines"
pub data LineSort : Type 0 where
  row : LineSort
  typing : LineSort
  other : LineSort
  stray : LineSort

abbrev pub type_mark : List ℕ
type_mark = ascii "!type"

unfoldable pub sort_of : List ℕ → LineSort
sort_of [] = row
sort_of (x ∷ r) = pick (eqb x (code "!")) (pick (same_bytes (x ∷ r) type_mark) typing other) stray

-- a line with one cell for each column, behind data or not: 20 for "a line .. that begins with neither tab nor `!`, or a `!` line after
-- data", 19 for "a `!type` that isn't second"; other `!` lines "are skipped unread"
abbrev pub line_by : LineSort → Bool → List ColumnType → ℕ → Line → Cells
line_by row behind ts m l = cells_of ts m l.cells
line_by typing true ts m l = refused bad_line l.place
line_by typing false ts m l = refused bad_header l.place
line_by other true ts m l = refused bad_line l.place
line_by other false ts m l = got [] []
line_by stray behind ts m l = refused bad_line l.place

-- "in a line 20 comes first": "wrong cell count"
unfoldable pub read_line : Bool → List ColumnType → ℕ → Line → Cells
read_line behind ts m l =
    pick (eqb (length l.cells) (length ts)) (line_by (sort_of l.first) behind ts m l) (refused bad_line l.place)

abbrev pub is_row : LineSort → Bool
is_row row = true
is_row typing = false
is_row other = false
is_row stray = false

unfoldable pub read_lines : Bool → List ColumnType → ℕ → List Line → Cells
read_lines behind ts m [] = got [] []
read_lines behind ts m (l ∷ ls) = chain m (read_line behind ts m l) (λ j. read_lines (is_row (sort_of l.first)) ts j ls)
