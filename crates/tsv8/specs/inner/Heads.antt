-- What the judges of a whole text promise each other: this speaks of the code alone, and no rule cites it.
-- Assumes nothing.
use Rattle.std.specs.Prelude.{ℕ, suc, ◌+◌, ◌-◌, ◌≤◌, ◌<◌, false, List, ◌++◌, ◌≡◌, Option, Some, None, Result, Ok, Err, eqb, ltb, length, take, drop}
use Rattle.prelude.specs.declared.refusals.Refused.{Refused}
use Rattle.prelude.specs.Limits.{column_max}
use Rattle.prelude.specs.Pick.{pick}
use Rattle.prelude.specs.Refusals.{bad_header}
use Rattle.tokens.specs.Words.{same_bytes}
use Rattle.tsv8.specs.declared.heads.Outline.{Outline}
use Rattle.tsv8_cells.specs.declared.columns.ColumnType.{ColumnType}
use Rattle.tsv8_cells.specs.Types.{Types, types, untyped, all_strs}
use Rattle.tsv8_cells.specs.Cells.{Cell, got, cells_of}
use Rattle.tsv8.specs.Lines.{read_lines}
use Rattle.tsv8.specs.Read.{SheetRead, read, unread, joined, behind_names, first_mark}
use Rattle.tsv8_cells.specs.inner.Runs.{Starts, cells_at, lines_from}

-- n types of a line that ends at a place
abbrev pub TypesBy : Types → ℕ → ℕ → List ColumnType → Result ℕ Refused → Type 0
TypesBy want end n new (Ok rest) = (want ≡ types (take n new)) × ((rest ≡ suc end) × (n ≤ length new))
TypesBy want end n new (Err f) = (want ≡ untyped f.place) × (f.refusal ≡ bad_header)

pub record TypesTold (want : Types) (end n : ℕ) (new : List ColumnType) (r : Result ℕ Refused) : Type 0 where
  pub so : TypesBy want end n new r

-- the lines behind n names, if those behind their types begin at a place
pub record Typed (s : List ℕ) (at : ℕ) (ns : List Cell) (bs : List ℕ) (n : ℕ) (new : List ColumnType) (rest : ℕ) : Type 0 where
  pub same :
      behind_names ns bs (lines_from s at) ≡ joined ns (take n new) bs (read_lines false (take n new) (length bs) (lines_from s rest))
  pub onward : at ≤ rest
  pub inside : rest ≤ length s + 1
  pub long : n ≤ length new

abbrev pub TypedBy : List ℕ → ℕ → List Cell → List ℕ → ℕ → List ColumnType → Result ℕ Refused → Type 0
TypedBy s at ns bs n new (Ok rest) = Typed s at ns bs n new rest
TypedBy s at ns bs n new (Err f) = behind_names ns bs (lines_from s at) ≡ unread f.refusal f.place

pub record TypedTold (s : List ℕ) (at : ℕ) (ns : List Cell) (bs : List ℕ) (n : ℕ) (new : List ColumnType) (r : Result ℕ Refused) : Type 0 where
  pub so : TypedBy s at ns bs n new r

-- the number of columns that a first line has; none where it is no such line
unfoldable pub columns_of : List ℕ → ℕ → ℕ → Option ℕ
columns_of s at q =
    pick (same_bytes (take (q - at) (drop at s)) first_mark)
    (pick (eqb (length (cells_at s q)) 0) None (pick (ltb column_max (length (cells_at s q))) None (Some (length (cells_at s q))))) None

-- Str alone
abbrev pub AllStrs : List ColumnType → Type 0
AllStrs l = (n : ℕ) → n ≤ column_max → (n ≤ length l) × (take n l ≡ all_strs n)

-- the lines behind n names, which take m bytes of the store
pub record BehindGot (s : List ℕ) (want : SheetRead) (ns : List Cell) (bs : List ℕ) (q n m : ℕ) (new : List ColumnType) (o : Outline) : Type 0 where
  pub cells : List Cell
  pub bytes : List ℕ
  pub same : want ≡ read ns (take n new) cells (bs ++ bytes)
  pub lines : read_lines false (take n new) m (lines_from s o.rest) ≡ got cells bytes
  pub names : o.names ≡ q
  pub columns : o.columns ≡ n
  pub count : o.cells ≡ length cells
  pub stored : o.stored ≡ m + length bytes
  pub short : o.stored ≤ length s + 1
  pub small : m ≤ o.rest
  pub inside : o.rest ≤ length s + 1
  pub long : n ≤ length new

abbrev pub BehindBy : List ℕ → SheetRead → List Cell → List ℕ → ℕ → ℕ → ℕ → List ColumnType → Result Outline Refused → Type 0
BehindBy s want ns bs q n m new (Ok o) = BehindGot s want ns bs q n m new o
BehindBy s want ns bs q n m new (Err f) = want ≡ unread f.refusal f.place

pub record BehindTold (s : List ℕ) (want : SheetRead) (ns : List Cell) (bs : List ℕ) (q n m : ℕ) (new : List ColumnType) (r : Result Outline Refused) : Type 0 where
  pub so : BehindBy s want ns bs q n m new r

-- a whole text
pub record HeadGot (s : List ℕ) (want : SheetRead) (new : List ColumnType) (o : Outline) : Type 0 where
  pub names : List Cell
  pub before : List ℕ
  pub behind : BehindGot s want names before o.names o.columns (length before) new o
  pub first : cells_of (all_strs o.columns) 0 (cells_at s o.names) ≡ got names before
  pub count : length names ≡ o.columns
  pub due : length (cells_at s o.names) ≡ o.columns
  pub few : o.columns ≤ column_max
  pub some : 0 < o.columns
  pub inside : o.names ≤ length s
  pub starts : Starts s o.names

abbrev pub HeadBy : List ℕ → SheetRead → List ColumnType → Result Outline Refused → Type 0
HeadBy s want new (Ok o) = HeadGot s want new o
HeadBy s want new (Err f) = want ≡ unread f.refusal f.place

pub record HeadTold (s : List ℕ) (want : SheetRead) (new : List ColumnType) (r : Result Outline Refused) : Type 0 where
  pub so : HeadBy s want new r
