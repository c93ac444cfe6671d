-- What the judges of lines promise each other: this speaks of the code alone, and no rule cites it.
-- Assumes nothing.
use Rattle.std.specs.Prelude.{ℕ, suc, ◌+◌, ◌≤◌, Bool, true, List, ◌≡◌, Result, Ok, Err, eqb, length}
use Rattle.prelude.specs.declared.refusals.Refused.{Refused}
use Rattle.prelude.specs.Pick.{pick}
use Rattle.prelude.specs.Refusals.{bad_line, refused_at}
use Rattle.tsv8.specs.declared.rows.Row.{Row}
use Rattle.tsv8.specs.declared.rows.Line.{Line as LineOut}
use Rattle.tsv8.specs.declared.rows.Line.TheVariants.{Skipped, Read}
use Rattle.tsv8.specs.declared.rows.Counted.{Counted}
use Rattle.tsv8_cells.specs.Parts.{Part}
use Rattle.tsv8_cells.specs.declared.columns.ColumnType.{ColumnType}
use Rattle.tsv8_cells.specs.Cells.{Cell, Cells, got, refused, more, cells_of}
use Rattle.tsv8.specs.Lines.{read_lines}
use Rattle.tsv8_cells.specs.inner.Runs.{line_end, lines_from}

-- a line's cells, of the types ts: "in a line 20 comes first"
unfoldable pub row_read : List ColumnType → ℕ → ℕ → List Part → Cells
row_read ts m p cs = pick (eqb (length cs) (length ts)) (cells_of ts m cs) (refused bad_line p)

-- a refusal in a line of c cells, where n are due
unfoldable pub refused_row : ℕ → ℕ → ℕ → Refused → Refused
refused_row c n p f = pick (eqb c n) f (refused_at bad_line p)

-- n cells from a place on, to the line's end
pub record RowGot (want : Cells) (end from n m e j : ℕ) : Type 0 where
  pub cells : List Cell
  pub bytes : List ℕ
  pub same : want ≡ got cells bytes
  pub count : length cells ≡ n
  pub ends : e ≡ end
  pub stored : j ≡ m + length bytes
  pub small : j ≤ e
  pub room : from + n ≤ e

abbrev pub RowBy : Cells → ℕ → ℕ → ℕ → ℕ → Result Row Refused → Type 0
RowBy want end from n m (Ok r) = RowGot want end from n m r.end r.stored
RowBy want end from n m (Err f) = want ≡ refused f.refusal f.place

pub record RowTold (want : Cells) (end from n m : ℕ) (r : Result Row Refused) : Type 0 where
  pub so : RowBy want end from n m r

-- the lines from a place on, behind a line that gives no cells
pub record LineSkipped (s : List ℕ) (behind : Bool) (ts : List ColumnType) (m at e : ℕ) : Type 0 where
  pub ends : e ≡ line_end s at
  pub same : read_lines behind ts m (lines_from s at) ≡ read_lines behind ts m (lines_from s (suc e))

-- and behind a row
pub record LineGot (s : List ℕ) (behind : Bool) (ts : List ColumnType) (m at n e j : ℕ) : Type 0 where
  pub cells : List Cell
  pub bytes : List ℕ
  pub ends : e ≡ line_end s at
  pub same : read_lines behind ts m (lines_from s at) ≡ more cells bytes (read_lines true ts j (lines_from s (suc e)))
  pub count : length cells ≡ n
  pub stored : j ≡ m + length bytes
  pub small : j ≤ e
  pub room : at + n ≤ e

abbrev pub LineBy : List ℕ → Bool → List ColumnType → ℕ → ℕ → ℕ → Result LineOut Refused → Type 0
LineBy s behind ts m at n (Ok (Skipped e)) = LineSkipped s behind ts m at e
LineBy s behind ts m at n (Ok (Read r)) = LineGot s behind ts m at n r.end r.stored
LineBy s behind ts m at n (Err f) = read_lines behind ts m (lines_from s at) ≡ refused f.refusal f.place

pub record LineTold (s : List ℕ) (behind : Bool) (ts : List ColumnType) (m at n : ℕ) (r : Result LineOut Refused) : Type 0 where
  pub so : LineBy s behind ts m at n r

-- all lines of a text of so many bytes
pub record LinesGot (size : ℕ) (want : Cells) (m c j : ℕ) : Type 0 where
  pub cells : List Cell
  pub bytes : List ℕ
  pub same : want ≡ got cells bytes
  pub count : length cells ≡ c
  pub stored : j ≡ m + length bytes
  pub short : j ≤ size + 1

abbrev pub LinesBy : ℕ → Cells → ℕ → Result Counted Refused → Type 0
LinesBy size want m (Ok c) = LinesGot size want m c.cells c.stored
LinesBy size want m (Err f) = want ≡ refused f.refusal f.place

pub record LinesTold (size : ℕ) (want : Cells) (m : ℕ) (r : Result Counted Refused) : Type 0 where
  pub so : LinesBy size want m r
