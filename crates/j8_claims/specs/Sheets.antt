-- What `j8_tsv8_read` leaves in the caller's buffers, as names, types and cells.
-- Assumes nothing.
use Rattle.std.specs.Prelude.{ℕ, zero, suc, ◌*◌, ◌/◌, ◌≤◌, List, [], ◌∷◌, map, ◌≡◌, length, get_or, take, drop}
use Rattle.prelude.specs.Limits.{text_max, column_max}
use Rattle.prelude.specs.declared.refusals.Refusal.{Refusal}
use Rattle.prelude.specs.Refusals.{number_of}
use Rattle.tsv8_cells.specs.declared.columns.ColumnType.{ColumnType}
use Rattle.tsv8_cells.specs.Types.{type_number}
use Rattle.tsv8_cells.specs.Cells.{Cell, cell}
use Rattle.tsv8.specs.Read.{read, read_all}
use Rattle.tsv8_claims.specs.Claims.{Numbered, Placed}
use Rattle.j8.specs.Runs.{RanSheet}

-- "each name and cell is three 32-bit numbers, kind .., place and length": the first n of a buffer of numbers
abbrev pub cells_in : ℕ → List ℕ → List Cell
cells_in zero w = []
cells_in (suc n) w = cell (get_or w 0 0) (get_or w 1 0) (get_or w 2 0) ∷ cells_in n (drop 3 w)

-- the names, the cells and the store that a call answers
abbrev pub read_names : RanSheet → List Cell
read_names r = cells_in r.result.columns r.names

abbrev pub read_cells : RanSheet → List Cell
read_cells r = cells_in r.result.cells r.cells

abbrev pub read_store : RanSheet → List ℕ
read_store r = take r.result.stored r.store

-- the column types whose numbers a call leaves
abbrev pub Typed : RanSheet → List ColumnType → Type 0
Typed r ts = map type_number ts ≡ take r.result.columns r.types

-- a text that is no longer than a text may be, and is accepted
pub record TextHolds (text : List ℕ) (ns : List Cell) (ts : List ColumnType) (cs : List Cell) (bs : List ℕ) : Type 0 where
  pub short : length text ≤ text_max
  pub accepted : read_all text ≡ read ns ts cs bs

-- room for n columns, c cells and m bytes of the store: three numbers for each name and cell, one for each type
pub record SheetFits (n c m : ℕ) (names types cells store : List ℕ) : Type 0 where
  pub in_names : 3 * n ≤ length names
  pub in_types : n ≤ length types
  pub in_cells : 3 * c ≤ length cells
  pub in_store : m ≤ length store

-- behind the counted names, types, cells and bytes all is as it was
pub record RestKept (r : RanSheet) (names types cells store : List ℕ) : Type 0 where
  pub names_rest : drop (3 * r.result.columns) r.names ≡ drop (3 * r.result.columns) names
  pub types_rest : drop r.result.columns r.types ≡ drop r.result.columns types
  pub cells_rest : drop (3 * r.result.cells) r.cells ≡ drop (3 * r.result.cells) cells
  pub store_rest : drop r.result.stored r.store ≡ drop r.result.stored store

-- a call that is done: what stands in the buffers, and inside them, is what the text is read to
pub record SheetDone (text : List ℕ) (r : RanSheet) (names types cells store : List ℕ) : Type 0 where
  pub column_types : List ColumnType
  pub typed : Typed r column_types
  pub holds : TextHolds text (read_names r) column_types (read_cells r) (read_store r)
  pub fits : SheetFits r.result.columns r.result.cells r.result.stored names types cells store
  pub within : SheetFits r.result.columns r.result.cells r.result.stored r.names r.types r.cells r.store
  pub at_place : r.result.place ≡ 0
  pub kept : RestKept r names types cells store

-- "a refused text leaves the lent result as it was": one refusal's number and its place, no counts, and all four buffers as they were
pub record SheetRefused (text : List ℕ) (r : RanSheet) (names types cells store : List ℕ) : Type 0 where
  pub refusal : Refusal
  pub told : r.result.number ≡ number_of refusal
  pub numbered : Numbered refusal
  pub inside : r.result.place ≤ length text
  pub placed : Placed text refusal r.result.place
  pub no_columns : r.result.columns ≡ 0
  pub no_cells : r.result.cells ≡ 0
  pub nothing_stored : r.result.stored ≡ 0
  pub names_kept : r.names ≡ names
  pub types_kept : r.types ≡ types
  pub cells_kept : r.cells ≡ cells
  pub store_kept : r.store ≡ store

-- J8_NAMES_ROOM, J8_TYPES_ROOM, J8_CELLS_ROOM, J8_TEXT_CELLS_ROOM(n) and J8_STORE_ROOM(n) of include/j8.h
abbrev pub names_room : ℕ
names_room = column_max * 3

abbrev pub types_room : ℕ
types_room = column_max

abbrev pub cells_room : ℕ
cells_room = 48546

abbrev pub text_cells_room : ℕ → ℕ
text_cells_room n = 3 * (n / 2)

abbrev pub store_room : ℕ → ℕ
store_room n = n
