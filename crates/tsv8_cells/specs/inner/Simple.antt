-- What the code's readers of cells that few bytes tell promise each other: this speaks of the code alone, and no rule cites it.
-- Assumes nothing.
use Rattle.std.specs.Prelude.{ℕ, ◌+◌, ◌-◌, ◌≤◌, ◌<◌, List, ◌≡◌, Result, Some, length, take, drop}
use Rattle.prelude.specs.declared.refusals.Refused.{Refused}
use Rattle.string_tokens.specs.inner.Quotes.{PlainToken}
use Rattle.lines.specs.Line.{leads, strip}
use Rattle.tokens.specs.Words.{word_value}
use Rattle.tokens.specs.inner.Parts.{name_kind}
use Rattle.tsv8_cells.specs.declared.cells.Cell.{Cell as CellOut}
use Rattle.tsv8_cells.specs.Parts.{part}
use Rattle.tsv8_cells.specs.Types.{ColumnType}
use Rattle.tsv8_cells.specs.Cells.{cell_at}
use Rattle.tsv8_cells.specs.inner.Runs.{cell_run}
use Rattle.tsv8_cells.specs.inner.Texts.{AllPlain}
use Rattle.tsv8_cells.specs.inner.Typed.{typed_kind}
use Rattle.tsv8_cells.specs.inner.Told.{CellTold}

-- the bytes from one place to another
abbrev pub bytes_to : List ℕ → ℕ → ℕ → List ℕ
bytes_to s q e = take (e - q) (drop q s)

-- a tab or an LF stands at a place
pub record Over (s : List ℕ) (e : ℕ) : Type 0 where
  pub inside : e < length s
  pub over : cell_run (drop e s) ≡ 0

-- a cell from q to e with nothing to strip
pub record Solid (s : List ℕ) (q e : ℕ) : Type 0 where
  pub some : q < e
  pub inside : e ≤ length s
  pub run : e ≡ q + cell_run (drop q s)
  pub first : leads (bytes_to s q e) ≡ 0
  pub same : strip (bytes_to s q e) ≡ bytes_to s q e

-- in double quotes, without a backslash
pub record QuotedCell (s : List ℕ) (q e : ℕ) : Type 0 where
  pub solid : Solid s q e
  pub marks : q + 2 ≤ e
  pub token : PlainToken (bytes_to s q e) 1 (e - q - 1)

pub record BareCell (s : List ℕ) (q e : ℕ) : Type 0 where
  pub solid : Solid s q e
  pub plain : AllPlain (bytes_to s q e)

-- fit for a type, by the kind k
pub record TypedCell (s : List ℕ) (q e : ℕ) (t : ColumnType) (k : ℕ) : Type 0 where
  pub solid : Solid s q e
  pub fit : Some k ≡ typed_kind t (bytes_to s q e)

-- the name of a value that begins with x
pub record NamedCell (s : List ℕ) (q e x : ℕ) : Type 0 where
  pub solid : Solid s q e
  pub value : word_value (bytes_to s q e) ≡ Some (name_kind x)

-- the cell from q on, behind m bytes of the store: its end, and what it is read to in a column of a type
pub record Found (s : List ℕ) (q : ℕ) (t : ColumnType) (m e : ℕ) (r : Result CellOut Refused) : Type 0 where
  pub end : e ≡ q + cell_run (drop q s)
  pub told : CellTold (cell_at t m (part q (bytes_to s q e))) (strip (bytes_to s q e)) e m r
