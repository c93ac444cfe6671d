-- Reading cells: "each but a line's first is stripped and read as in J8 Lines".
-- Assumes nothing.
use Rattle.std.specs.Prelude.{ℕ, ◌+◌, ◌-◌, Bool, true, false, List, [], ◌∷◌, ◌++◌, length}
use Rattle.prelude.specs.Pick.{pick}
use Rattle.prelude.specs.declared.refusals.Refusal.{Refusal}
use Rattle.prelude.specs.Refusals.{wrong_type, empty_cell}
use Rattle.notation.specs.Marks.{Opening, opens, unopened, opening}
use Rattle.lines.specs.Line.{leads, strip, LineRead, ignored, holds, faulty, read_stripped}
use Rattle.tokens.specs.Words.{same_bytes, false_word, true_word}
use Rattle.json8.specs.Leaves.{slashed}
use Rattle.tsv8_cells.specs.Parts.{Part}
use Rattle.tsv8_cells.specs.Types.{ColumnType, bools, ints, floats, strs, is_int, is_float}

-- "each name and cell is three 32-bit numbers, kind .., place and length"
pub record Cell : Type 0 where
  pub kind : ℕ
  pub place : ℕ
  pub size : ℕ

abbrev pub cell : ℕ → ℕ → ℕ → Cell
cell k p n = record { kind = k; place = p; size = n }

-- cells in reading order, and the bytes that they append to the store; or a refusal and its place
pub data Cells : Type 0 where
  got : List Cell → List ℕ → Cells
  refused : Refusal → ℕ → Cells

abbrev pub more : List Cell → List ℕ → Cells → Cells
more cs bs (got ds es) = got (cs ++ ds) (bs ++ es)
more cs bs (refused refusal at) = refused refusal at

-- one behind another, the first behind m bytes of the store
abbrev pub chain : ℕ → Cells → (ℕ → Cells) → Cells
chain m (got cs bs) go = more cs bs (go (m + length bs))
chain m (refused refusal at) go = refused refusal at

-- a text w that is its own cell
abbrev pub plain : ℕ → ℕ → List ℕ → Cells
plain kind p w = got (cell kind p (length w) ∷ []) []

-- "5, 6 Str; bare strings 5", "with decoded bytes in a store as in JSON8": 5 without a backslash, its marks left off, 6 with one
abbrev pub string_cell : Opening → Bool → ℕ → ℕ → List ℕ → List ℕ → Cells
string_cell unopened b p m w bs = plain 5 p w
string_cell (opens st k) false p m w bs = got (cell 5 (p + k) (length w - (k + 1)) ∷ []) []
string_cell (opens st k) true p m w bs = got (cell 6 m (length bs) ∷ []) bs

-- a stripped text w at the place p that denotes the bytes bs, in a column of a type: "kind (1 false, 2 true, 3 Int, 4 Float, 5, 6 Str ..)";
-- "Bool (`true`, `false`), Int .. and Float .. stand bare"; q is the place after the tab
abbrev pub cell_for : ColumnType → ℕ → ℕ → ℕ → List ℕ → List ℕ → Cells
cell_for bools q p m w bs =
    pick (same_bytes w false_word) (plain 1 p w) (pick (same_bytes w true_word) (plain 2 p w) (refused wrong_type q))
cell_for ints q p m w bs = pick (is_int w) (plain 3 p w) (refused wrong_type q)
cell_for floats q p m w bs = pick (is_float w) (plain 4 p w) (refused wrong_type q)
cell_for strs q p m w bs = string_cell (opening w) (slashed w) p m w bs

-- "in a cell 22, its own text wherever it fails, 21"
abbrev pub cell_by : LineRead → ColumnType → ℕ → ℕ → ℕ → List ℕ → Cells
cell_by ignored t q p m w = refused empty_cell q
cell_by (faulty refusal at) t q p m w = refused refusal (p + at)
cell_by (holds kind bs) t q p m w = cell_for t q p m w bs

-- a cell behind m bytes of the store
unfoldable pub cell_at : ColumnType → ℕ → Part → Cells
cell_at t m c =
    cell_by (read_stripped (strip c.bytes)) t c.place (c.place + leads c.bytes) m (strip c.bytes)

-- one cell for each column
unfoldable pub cells_of : List ColumnType → ℕ → List Part → Cells
cells_of [] m cs = got [] []
cells_of (t ∷ ts) m [] = got [] []
cells_of (t ∷ ts) m (c ∷ cs) = chain m (cell_at t m c) (λ j. cells_of ts j cs)
