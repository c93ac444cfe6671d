-- Reading the lines of a TSV8 text: the first, the `!type` line if there is one, and those behind.
-- Assumes nothing.
use Rattle.std.specs.Prelude.{ℕ, Bool, false, ◌&&◌, List, [], ◌∷◌, ◌++◌, leb, eqb, length}
use Rattle.prelude.specs.declared.refusals.Refusal.{Refusal}
use Rattle.prelude.specs.Bytes.{ascii}
use Rattle.prelude.specs.Limits.{column_max}
use Rattle.prelude.specs.Pick.{pick}
use Rattle.prelude.specs.Refusals.{bad_header}
use Rattle.tokens.specs.Words.{same_bytes}
use Rattle.tsv8_cells.specs.Parts.{Line, lines_of}
use Rattle.tsv8_cells.specs.declared.columns.ColumnType.{ColumnType}
use Rattle.tsv8_cells.specs.Types.{all_strs, Types, types, untyped, types_in}
use Rattle.tsv8_cells.specs.Cells.{Cell, Cells, got, refused, cells_of}
use Rattle.tsv8.specs.Lines.{type_mark, read_lines}

-- "Answer: names, types .. and a table of cells in reading order", and the store; or the refusal and its place
pub data SheetRead : Type 0 where
  read : List Cell → List ColumnType → List Cell → List ℕ → SheetRead
  unread : Refusal → ℕ → SheetRead

-- the names, the types, and the store so far, with the cells
abbrev pub joined : List Cell → List ColumnType → List ℕ → Cells → SheetRead
joined ns ts bs (got cs es) = read ns ts cs (bs ++ es)
joined ns ts bs (refused refusal at) = unread refusal at

abbrev pub behind_types : List Cell → List ℕ → List Line → Types → SheetRead
behind_types ns bs ls (types ts) = joined ns ts bs (read_lines false ts (length bs) ls)
behind_types ns bs ls (untyped p) = unread bad_header p

-- "Then optionally `!type` with Bool, Int, Float or Str for each column"; one with a wrong count is 20
unfoldable pub has_types : ℕ → Line → Bool
has_types n l = same_bytes l.first type_mark && eqb (length l.cells) n

unfoldable pub behind_names : List Cell → List ℕ → List Line → SheetRead
behind_names ns bs [] = behind_types ns bs [] (types (all_strs (length ns)))
behind_names ns bs (l ∷ ls) =
    pick (has_types (length ns) l) (behind_types ns bs ls (types_in l.cells))
    (behind_types ns bs (l ∷ ls) (types (all_strs (length ns))))

abbrev pub by_names : Cells → List Line → SheetRead
by_names (got ns bs) ls = behind_names ns bs ls
by_names (refused refusal at) ls = unread refusal at

abbrev pub first_mark : List ℕ
first_mark = ascii "!tsv8"

-- "First line: `!tsv8`, then tab and a column name, 1 to 64 times."
unfoldable pub is_first : Line → Bool
is_first l = same_bytes l.first first_mark && (leb 1 (length l.cells) && leb (length l.cells) column_max)

-- the lines that are left: "19 there (0 if no line is left)"; "names are Str cells"
unfoldable pub read_sheet : List Line → SheetRead
read_sheet [] = unread bad_header 0
read_sheet (l ∷ ls) =
    pick (is_first l) (by_names (cells_of (all_strs (length l.cells)) 0 l.cells) ls) (unread bad_header l.place)

-- the leftmost fault, or what the text holds
unfoldable pub read_all : List ℕ → SheetRead
read_all s = read_sheet (lines_of s)
