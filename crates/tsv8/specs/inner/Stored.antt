-- What the code's storing functions promise each other: this speaks of the code alone, and no rule cites it.
-- Assumes nothing.
use Rattle.std.specs.Prelude.{ℕ, ◌+◌, ◌*◌, ◌≤◌, List, [], ◌≡◌, length, take, drop}
use Rattle.prelude.specs.Limits.{text_max}
use Rattle.tsv8_cells.specs.Parts.{part}
use Rattle.tsv8_cells.specs.declared.columns.ColumnType.{ColumnType}
use Rattle.tsv8_cells.specs.Cells.{Cell, Cells, got, refused, cell_at}
use Rattle.tsv8_cells.specs.inner.Runs.{cell_run}

abbrev pub cells_in : Cells → List Cell
cells_in (got cs bs) = cs
cells_in (refused refusal at) = []

abbrev pub bytes_in : Cells → List ℕ
bytes_in (got cs bs) = bs
bytes_in (refused refusal at) = []

-- the cell from a place on, behind m bytes of the store
abbrev pub cell_here : List ℕ → ColumnType → ℕ → ℕ → Cells
cell_here s t m q = cell_at t m (part q (take (cell_run (drop q s)) (drop q s)))

-- cells without a fault that find room behind i cells and m bytes
pub record Fits (want : Cells) (i m : ℕ) (table store : List ℕ) : Type 0 where
  pub cells : List Cell
  pub bytes : List ℕ
  pub same : want ≡ got cells bytes
  pub room : 3 * (i + length cells) ≤ length table
  pub long : m + length bytes ≤ length store
  pub short : m + length bytes ≤ text_max + 1
