-- What the reader of a cell promises: this speaks of the code alone, and no rule cites it.
-- Assumes nothing.
use Rattle.std.specs.Prelude.{ℕ, ◌+◌, ◌≤◌, List, [], ◌∷◌, ◌≡◌, Result, Ok, Err, eqb, length}
use Rattle.prelude.specs.declared.refusals.Refused.{Refused}
use Rattle.prelude.specs.Pick.{pick}
use Rattle.strings.specs.Read.{read_token}
use Rattle.string_tokens.specs.inner.Quotes.{denoted}
use Rattle.tsv8_cells.specs.declared.cells.Cell.{Cell as CellOut}
use Rattle.tsv8_cells.specs.Cells.{cell, Cells, got, refused}

-- what a cell of a kind and a length takes of the store
unfoldable pub stored_by : ℕ → ℕ → ℕ
stored_by kind n = pick (eqb kind 6) n 0

-- a cell with a stripped text w, which ends at a place or before it
pub record CellGot (want : Cells) (w : List ℕ) (end m kind place size : ℕ) : Type 0 where
  pub bytes : List ℕ
  pub same : want ≡ got (cell kind place size ∷ []) bytes
  pub denotes : bytes ≡ pick (eqb kind 6) (denoted (read_token w)) []
  pub count : length bytes ≡ stored_by kind size
  pub stored : kind ≡ 6 → place ≡ m
  pub inside : (kind ≡ 6 → ⊥) → place + size ≤ end
  pub small : size ≤ length w

abbrev pub CellBy : Cells → List ℕ → ℕ → ℕ → Result CellOut Refused → Type 0
CellBy want w end m (Ok c) = CellGot want w end m c.kind c.place c.size
CellBy want w end m (Err f) = want ≡ refused f.refusal f.place

pub record CellTold (want : Cells) (w : List ℕ) (end m : ℕ) (r : Result CellOut Refused) : Type 0 where
  pub so : CellBy want w end m r
