-- What is claimed of the definition of reading TSV8, beside the contracts: each claim is a type, and proofs/Claims.antt has a term of it.
-- What is claimed of `read_all` holds of texts of any length; `AcceptedInAnyRoom` takes it over to `read_text`.
-- Assumes nothing.
use Rattle.std.specs.Prelude.{ℕ, zero, suc, pred, ◌+◌, ◌*◌, ◌≤◌, ◌<◌, Bool, true, false, List, [], ◌∷◌, ◌++◌, map, ◌⊎◌, ◌≡◌, eqb, length, get_or, take, drop}
use Prim.Native.String.{String}
use Rattle.prelude.specs.declared.refusals.Refusal.{Refusal}
use Rattle.prelude.specs.Bytes.{TAB, LF, ascii}
use Rattle.prelude.specs.Limits.{text_max, column_max}
use Rattle.prelude.specs.Pick.{pick}
use Rattle.prelude.specs.Refusals.{too_long, cut_off, no_room, bad_header, bad_line, wrong_type, empty_cell, FromTo, TextFault}
use Rattle.lines.specs.Line.{strip, holds, read_stripped}
use Rattle.tokens.specs.Words.{false_word, true_word}
use Rattle.tokens.specs.Numbers.{number_kind}
use Rattle.tsv8_cells.specs.Parts.{Part, divided, parts_of, Line, lines_of}
use Rattle.tsv8_cells.specs.declared.columns.ColumnType.{ColumnType}
use Rattle.tsv8_cells.specs.declared.columns.ColumnType.TheVariants.{Bool as bools, Int as ints, Float as floats, Str as strs}
use Rattle.tsv8_cells.specs.Types.{type_number, all_digits}
use Rattle.tsv8_cells.specs.Cells.{Cell, cell}
use Rattle.j8_lines.specs.Lines.{cut}
use Rattle.tsv8.specs.Lines.{sort_of, is_row}
use Rattle.tsv8.specs.Read.{SheetRead, read, unread, read_all}
use Rattle.tsv8.specs.Answers.{Rooms, read_text, flat}

-- each of some names or cells
abbrev pub Each : (Cell → Type 0) → List Cell → Type 0
Each P [] = Unit
Each P (c ∷ cs) = P c × Each P cs

-- what holds of every accepted text and of its names, types, cells and store
abbrev pub Accepted : (List ℕ → List Cell → List ColumnType → List Cell → List ℕ → Type 0) → Type 0
Accepted P =
    (s : List ℕ) (ns : List Cell) (ts : List ColumnType) (cs : List Cell) (bs : List ℕ) → read_all s ≡ read ns ts cs bs → P s ns ts cs bs

-- "2 (whole text only)", "last 12": what is accepted in a room is what the text is read to
abbrev pub AcceptedInAnyRoom : Type 0
AcceptedInAnyRoom =
    (r : Rooms) (s : List ℕ) (ns : List Cell) (ts : List ColumnType) (cs : List Cell) (bs : List ℕ) → read_text r s ≡ read ns ts cs bs
    → (length s ≤ text_max) × (read_all s ≡ read ns ts cs bs)

-- "kind (1 false, 2 true, 3 Int, 4 Float, 5, 6 Str ..), place and length, with decoded bytes in a store": in a text of n bytes, or with kind
-- 6 in a store of m
abbrev pub InRange : ℕ → ℕ → Cell → Type 0
InRange n m c =
    ((1 ≤ c.kind) × (c.kind ≤ 5) × (c.place + c.size ≤ n)) ⊎ ((c.kind ≡ 6) × (c.place + c.size ≤ m))

-- every name's and every cell's range lies in the text or in the store
abbrev pub RangesInside : Type 0
RangesInside = Accepted (λ s ns ts cs bs. Each (InRange (length s) (length bs)) ns × Each (InRange (length s) (length bs)) cs)

-- "a column name, 1 to 64 times", and a type for each column
abbrev pub ColumnsCounted : Type 0
ColumnsCounted = Accepted (λ s ns ts cs bs. (1 ≤ length ns) × (length ns ≤ column_max) × (length ts ≡ length ns))

-- "(1 false, 2 true, 3 Int, 4 Float, 5, 6 Str ..)"
abbrev pub KindFits : ColumnType → ℕ → Type 0
KindFits bools k = (k ≡ 1) ⊎ (k ≡ 2)
KindFits ints k = k ≡ 3
KindFits floats k = k ≡ 4
KindFits strs k = (k ≡ 5) ⊎ (k ≡ 6)

-- "names are Str cells"
abbrev pub NamesAreStrs : Type 0
NamesAreStrs = Accepted (λ s ns ts cs bs. Each (λ c. KindFits strs c.kind) ns)

-- "a table of cells in reading order", of whole rows: cells are columns times rows, and each has what its column's type asks
pub record Table (P : ColumnType → Cell → Type 0) (ts : List ColumnType) (cs : List Cell) : Type 0 where
  pub rows : ℕ
  pub whole : length cs ≡ rows * length ts
  pub each :
      (row column : ℕ) → row < rows → column < length ts
      → P (get_or ts column strs) (get_or cs (row * length ts + column) (cell 0 0 0))

abbrev pub KindsFitTypes : Type 0
KindsFitTypes = Accepted (λ s ns ts cs bs. Table (λ t c. KindFits t c.kind) ts cs)

-- the bytes at a cell's range in the text
abbrev pub bytes_at : List ℕ → Cell → List ℕ
bytes_at s c = take c.size (drop c.place s)

-- "Bool (`true`, `false`), Int (a JSON number of digits only) and Float (a JSON number) stand bare"
abbrev pub TextFits : List ℕ → ColumnType → Cell → Type 0
TextFits s bools c = (c.kind ≡ 1 → bytes_at s c ≡ false_word) × (c.kind ≡ 2 → bytes_at s c ≡ true_word)
TextFits s ints c = (0 < number_kind (bytes_at s c)) × (all_digits (bytes_at s c) ≡ true)
TextFits s floats c = 0 < number_kind (bytes_at s c)
TextFits s strs c = Unit

abbrev pub TextsFitTypes : Type 0
TextsFitTypes = Accepted (λ s ns ts cs bs. Table (TextFits s) ts cs)

-- LF divides a TSV8 text into the lines of J8 Lines: "It cuts the text at its LFs, which belong to no line"
abbrev pub LinesCutAlike : Type 0
LinesCutAlike = (s : List ℕ) → map (λ (p : Part). p.bytes) (parts_of 0 (divided LF 0 s)) ≡ (cut s).closed ++ ((cut s).open_line ∷ [])

-- one for each, in order
abbrev pub OneForOne : (Part → Cell → Type 0) → List Part → List Cell → Type 0
OneForOne P [] [] = Unit
OneForOne P [] (c ∷ cs) = ⊥
OneForOne P (p ∷ ps) [] = ⊥
OneForOne P (p ∷ ps) (c ∷ cs) = P p c × OneForOne P ps cs

-- the names: the first line's cells, each behind its tab
abbrev pub name_parts : List Line → List Part
name_parts [] = []
name_parts (l ∷ ls) = l.cells

-- the cells of data lines: "A data line begins with a tab."
abbrev pub data_of : Bool → List Part → List Part
data_of true cs = cs
data_of false cs = []

abbrev pub data_parts : List Line → List Part
data_parts [] = []
data_parts (l ∷ ls) = data_of (is_row (sort_of l.first)) l.cells ++ data_parts ls

-- the bytes that a cell shows, of the text or of the store
abbrev pub shown : List ℕ → List ℕ → Cell → List ℕ
shown s bs c = pick (eqb c.kind 6) (bytes_at bs c) (bytes_at s c)

-- "each but a line's first is stripped and read as in J8 Lines": as a line, the cell holds the bytes that are shown
abbrev pub Shows : List ℕ → List ℕ → Part → Cell → Type 0
Shows s bs p c = (kind : ℕ) × (read_stripped (strip p.bytes) ≡ holds kind (shown s bs c))

-- the first line gives exactly its names, and the data lines exactly their cells
abbrev pub CellsShowTheirTexts : Type 0
CellsShowTheirTexts =
    Accepted
    (λ s ns ts cs bs. OneForOne (Shows s bs) (name_parts (lines_of s)) ns × OneForOne (Shows s bs) (data_parts (lines_of s)) cs)

-- a refusal's place is in the text or at its end
abbrev pub PlacesInside : Type 0
PlacesInside = (r : Rooms) (s : List ℕ) (refusal : Refusal) (at : ℕ) → read_text r s ≡ unread refusal at → at ≤ length s

-- "Refusals: 2 .., then the leftmost of 4 to 11 and these: 19 .. 20 .. 21 .. 22 .. last 12."; request [2], "23 .. 27 .. replace 5 everywhere"
abbrev pub Numbered : Refusal → Type 0
Numbered refusal = (refusal ≡ too_long) ⊎ (TextFault refusal ⊎ (FromTo bad_header empty_cell refusal ⊎ (refusal ≡ no_room)))

abbrev pub RefusalsNumbered : Type 0
RefusalsNumbered = (r : Rooms) (s : List ℕ) (refusal : Refusal) (at : ℕ) → read_text r s ≡ unread refusal at → Numbered refusal

-- the byte b stands before a place
abbrev pub Behind : List ℕ → ℕ → ℕ → Type 0
Behind s b at = (1 ≤ at) × (get_or s (pred at) 0 ≡ b)

-- "20 stands at its line's start, 19 there (0 if no line is left) or after its type's tab, 21 and 22 after their cell's tab"; 2 and 12, of
-- the whole text, at 0
abbrev pub Placed : List ℕ → Refusal → ℕ → Type 0
Placed s refusal at =
    (refusal ≡ bad_line → Behind s LF at) × (refusal ≡ bad_header → (at ≡ 0) ⊎ (Behind s LF at ⊎ Behind s TAB at))
    × (refusal ≡ wrong_type → Behind s TAB at) × (refusal ≡ empty_cell → Behind s TAB at) × (refusal ≡ too_long → at ≡ 0) × (refusal ≡ no_room → at ≡ 0)

abbrev pub RefusalsPlaced : Type 0
RefusalsPlaced = (r : Rooms) (s : List ℕ) (refusal : Refusal) (at : ℕ) → read_text r s ≡ unread refusal at → Placed s refusal at

-- no more names and cells than the text has bytes, and no more bytes in the store
abbrev pub NoLargerThanTheText : Type 0
NoLargerThanTheText = Accepted (λ s ns ts cs bs. (length ns + length cs ≤ length s) × (length bs ≤ length s))

-- `!tsv8`, a tab and a byte for each name and cell, an LF before each row
abbrev pub CellsTakeBytes : Type 0
CellsTakeBytes =
    Accepted
    (λ s ns ts cs bs. (rows : ℕ) × (length cs ≡ rows * length ns) × (5 + 2 * length ns + (rows + 2 * length cs) ≤ length s))

-- the most cells that 32,768 bytes can hold: 62 columns in 261 rows, or 58 in 279
abbrev pub cell_max : ℕ
cell_max = 16182

-- so many cells, and three numbers for each
abbrev pub CellsCounted : Type 0
CellsCounted =
    (r : Rooms) (s : List ℕ) (ns : List Cell) (ts : List ColumnType) (cs : List Cell) (bs : List ℕ) → read_text r s ≡ read ns ts cs bs
    → (length cs ≤ cell_max) × (length (flat cs) ≤ 3 * cell_max)

-- a text again and again
abbrev pub again : ℕ → List ℕ → List ℕ
again zero w = []
again (suc n) w = w ++ again n w

-- a name or cell of one letter in each of 58 columns, the names and 279 rows
abbrev pub full_text : List ℕ
full_text = ascii "!tsv8" ++ (again 58 (ascii "\ta") ++ again 279 (ascii "\n" ++ again 58 (ascii "\ta")))

abbrev pub cell_count : SheetRead → ℕ
cell_count (read ns ts cs bs) = length cs
cell_count (unread refusal at) = 0

-- no smaller number is enough
abbrev pub CellsReached : Type 0
CellsReached = (length full_text ≤ text_max) × (cell_count (read_all full_text) ≡ cell_max)

-- in such rooms no text is refused for want of room
abbrev pub RoomsSuffice : Type 0
RoomsSuffice =
    (r : Rooms) → column_max ≤ r.names → column_max ≤ r.types → cell_max ≤ r.cells → text_max ≤ r.store
    → (s : List ℕ) (at : ℕ) → read_text r s ≡ unread no_room at → ⊥

-- "last 12", for any of the four: a text that is accepted is refused with it if one of them is short
abbrev pub ShortOfRoom : Type 0
ShortOfRoom =
    (r : Rooms) (s : List ℕ) (ns : List Cell) (ts : List ColumnType) (cs : List Cell) (bs : List ℕ) → length s ≤ text_max
    → read_all s ≡ read ns ts cs bs
    → (r.names < length ns) ⊎ ((r.types < length ns) ⊎ ((r.cells < length cs) ⊎ (r.store < length bs))) → read_text r s ≡ unread no_room 0

-- "types (1 Bool, 2 Int, 3 Float, 4 Str)"
abbrev pub TypesNumbered : Type 0
TypesNumbered = map type_number (bools ∷ ints ∷ floats ∷ strs ∷ []) ≡ 1 ∷ 2 ∷ 3 ∷ 4 ∷ []

-- "three 32-bit numbers": no number of an accepted text is greater than the text may be long
abbrev pub Small : Cell → Type 0
Small c = (c.kind ≤ 6) × (c.place ≤ text_max) × (c.size ≤ text_max)

abbrev pub NumbersSmall : Type 0
NumbersSmall =
    (r : Rooms) (s : List ℕ) (ns : List Cell) (ts : List ColumnType) (cs : List Cell) (bs : List ℕ) → read_text r s ≡ read ns ts cs bs
    → Each Small ns × Each Small cs

pub record Example : Type 0 where
  pub text : String
  pub answer : SheetRead

-- source 002's tables, without their remarks: sizes and names, and ages and names; one column of each type, between lines that are ignored;
-- and columns without types
abbrev pub examples : List Example
examples =
    record {
      text = "!tsv8\tsize\tname\n!type\tInt\tStr\n\t42\tdoc/hello.md\n\t55\t\"doc/with spaces.md\"\n\t99\tb'doc/with byte \\yff.md'\n";
      answer =
          read (cell 5 6 4 ∷ cell 5 11 4 ∷ []) (ints ∷ strs ∷ [])
          (cell 3 31 2 ∷ cell 5 34 12 ∷ cell 3 48 2 ∷ cell 5 52 18 ∷ cell 3 73 2 ∷ cell 6 0 18 ∷ [])
          (ascii "doc/with byte " ++ (0xff ∷ ascii ".md"));
    } ∷
    record {
      text = "!tsv8\tage\tname\n!type\tInt\tStr\n!other\tx\ty\n\t44\talice\n\t33\tbob\n\t1\t\"a\\tb\"\n\t2\tb'nul \\y00'\n\t3\tu'unicode \\u{3bc}'\n";
      answer =
          read (cell 5 6 3 ∷ cell 5 10 4 ∷ []) (ints ∷ strs ∷ [])
          (cell 3 41 2 ∷ cell 5 44 5 ∷ cell 3 51 2 ∷ cell 5 54 3 ∷ cell 3 59 1 ∷ cell 6 0 3 ∷ cell 3 69 1 ∷ cell 6 3 5 ∷ cell 3 84 1 ∷ cell 6 8 10 ∷ [])
          (ascii "a\tbnul " ++ (0 ∷ ascii "unicode ") ++ (0xce ∷ 0xbc ∷ []));
    } ∷
    record {
      text = " \r\n!tsv8\ta\tb\tc\td\r\n\n!type\tBool\t Int\tFloat\tStr\n\tfalse\t0\t-1.5e3\t u'' \r\n\n\ttrue\t10\t7\t10";
      answer =
          read (cell 5 9 1 ∷ cell 5 11 1 ∷ cell 5 13 1 ∷ cell 5 15 1 ∷ []) (bools ∷ ints ∷ floats ∷ strs ∷ [])
          (cell 1 46 5 ∷ cell 3 52 1 ∷ cell 4 54 6 ∷ cell 5 64 0 ∷ cell 2 70 4 ∷ cell 3 75 2 ∷ cell 4 78 1 ∷ cell 5 80 2 ∷ []) [];
    } ∷
    record {
      text = "!tsv8\t\"a\\\\\"\tb\n\ttrue\t7";
      answer = read (cell 6 0 2 ∷ cell 5 12 1 ∷ []) (strs ∷ strs ∷ []) (cell 5 15 4 ∷ cell 5 20 1 ∷ []) (ascii "a\\");
    } ∷
    []

-- a data line without faults gives exactly its cells, in any room that has the names, types, cells and bytes of all
abbrev pub ExampleTables : Type 0
ExampleTables =
    (r : Rooms) → 4 ≤ r.names → 4 ≤ r.types → 10 ≤ r.cells → 18 ≤ r.store
    → map (λ (e : Example). read_text r (ascii e.text)) examples ≡ map (λ (e : Example). e.answer) examples

-- a text that is refused
abbrev pub wrong : String → Refusal → ℕ → Example
wrong text refusal at = record { text = text; answer = unread refusal at }

-- each of 19 to 22 with its place, and what comes before what: "in a line 20 comes first, and in a cell 22, its own text wherever it fails, 21"
abbrev pub refusals : List Example
refusals =
    wrong "" bad_header 0 ∷
    wrong "\n \r\n" bad_header 0 ∷
    wrong "\n!tsv8" bad_header 1 ∷
    wrong "!tsv8 \ta" bad_header 0 ∷
    wrong "!tsv8\ta\n!type\t int" bad_header 14 ∷
    wrong "!tsv8\ta\n!type\t" bad_header 14 ∷
    wrong "!tsv8\ta\n!x\ty\n!type\tInt" bad_header 13 ∷
    wrong "!tsv8\ta\n!type\tInt\tInt" bad_line 8 ∷
    wrong "!tsv8\ta\n\tx\n!x\ty" bad_line 11 ∷
    wrong "!tsv8\ta\nx\ty" bad_line 8 ∷
    wrong "!tsv8\ta\n\t\"x\ty\"" bad_line 8 ∷
    wrong "!tsv8\ta\tb\n\t\"x\ty\"" cut_off 13 ∷
    wrong "!tsv8\ta\n!type\tBool\n\t \"true " cut_off 26 ∷
    wrong "!tsv8\ta\n!type\tInt\n\t 007" wrong_type 19 ∷
    wrong "!tsv8\ta\n!type\tInt\n\t\"1\"" wrong_type 19 ∷
    wrong "!tsv8\ta\tb\n\t \t" empty_cell 11 ∷
    []

-- in any room
abbrev pub ExampleRefusals : Type 0
ExampleRefusals =
    (r : Rooms) → map (λ (e : Example). read_text r (ascii e.text)) refusals ≡ map (λ (e : Example). e.answer) refusals
