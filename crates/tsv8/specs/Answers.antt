-- A whole TSV8 text read into lent tables and a store: the code's answer, and what they hold.
-- Assumes nothing.
use Rattle.std.specs.Prelude.{ℕ, ◌/◌, Bool, ◌&&◌, List, [], ◌∷◌, ◌++◌, Result, Ok, Err, map, ltb, leb, length, drop}
use Rattle.prelude.specs.declared.refusals.Refused.{Refused}
use Rattle.prelude.specs.Limits.{text_max}
use Rattle.prelude.specs.Pick.{pick}
use Rattle.prelude.specs.Refusals.{too_long, no_room, refused_at}
use Rattle.tsv8.specs.declared.answers.Sheet.{Sheet}
use Rattle.tsv8_cells.specs.Types.{type_number}
use Rattle.tsv8_cells.specs.Cells.{Cell}
use Rattle.tsv8.specs.Read.{SheetRead, read, unread, read_all}

-- room for so many names, types, cells and bytes of the store
pub record Rooms : Type 0 where
  pub names : ℕ
  pub types : ℕ
  pub cells : ℕ
  pub store : ℕ

-- "each name and cell is three 32-bit numbers"
abbrev pub rooms_of : List ℕ → List ℕ → List ℕ → List ℕ → Rooms
rooms_of ns ts cs bs = record { names = length ns / 3; types = length ts; cells = length cs / 3; store = length bs }

-- so many columns, cells and bytes have room
unfoldable pub has_room : Rooms → ℕ → ℕ → ℕ → Bool
has_room r n c m = leb n r.names && (leb n r.types && (leb c r.cells && leb m r.store))

-- "last 12"
abbrev pub fitted : Rooms → SheetRead → SheetRead
fitted r (read ns ts cs bs) = pick (has_room r (length ns) (length cs) (length bs)) (read ns ts cs bs) (unread no_room 0)
fitted r (unread refusal at) = unread refusal at

-- "2 (whole text only), then the leftmost .."
unfoldable pub read_text : Rooms → List ℕ → SheetRead
read_text r s = pick (ltb text_max (length s)) (unread too_long 0) (fitted r (read_all s))

-- the code's answer: columns, cells and the store's bytes, or the refusal
abbrev pub sheet_of : SheetRead → Result Sheet Refused
sheet_of (read ns ts cs bs) = Ok (record { columns = length ns; cells = length cs; stored = length bs })
sheet_of (unread refusal at) = Err (refused_at refusal at)

-- the numbers of names and cells
unfoldable pub flat : List Cell → List ℕ
flat [] = []
flat (c ∷ cs) = c.kind ∷ c.place ∷ c.size ∷ flat cs

-- what the lent tables and the store hold afterwards; "a refused text leaves the lent result as it was"
abbrev pub front : List ℕ → List ℕ → List ℕ
front w out = w ++ drop (length w) out

abbrev pub names_after : SheetRead → List ℕ → List ℕ
names_after (read ns ts cs bs) out = front (flat ns) out
names_after (unread refusal at) out = out

abbrev pub types_after : SheetRead → List ℕ → List ℕ
types_after (read ns ts cs bs) out = front (map type_number ts) out
types_after (unread refusal at) out = out

abbrev pub cells_after : SheetRead → List ℕ → List ℕ
cells_after (read ns ts cs bs) out = front (flat cs) out
cells_after (unread refusal at) out = out

abbrev pub store_after : SheetRead → List ℕ → List ℕ
store_after (read ns ts cs bs) out = front bs out
store_after (unread refusal at) out = out
