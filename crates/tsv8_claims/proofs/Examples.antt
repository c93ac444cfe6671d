-- Source 002's tables and others, and texts that are refused, computed from the definition.
-- Assumes nothing.
use Prim.Native.Nat.{ℕ, ◌≤◌}
use mathlib.Core.Bool.{Bool, true, false, ◌&&◌}
use mathlib.Core.List.{List, [], ◌∷◌, map}
use mathlib.Core.Path.{◌≡◌, refl}
use native.Mathlib.Omega.{arith}
use lib.Dec.{leb, lit≤}
use lib.ListN.{length}
use borrow.Author.Tests.{le-leb, le-ltb, leb-true}
use Rattle.prelude.specs.Bytes.{ascii}
use Rattle.prelude.specs.Limits.{text_max}
use Rattle.prelude.specs.Pick.{pick}
use Rattle.prelude.proofs.Cases.{never, and_left, and_right}
use Rattle.utf8.specs.Class.{class_of}
use Rattle.utf8.specs.Utf8.{low_of, high_of, two_bytes, three_bytes, four_bytes, long_len, len_by, char_len, encode, valid_from}
use Rattle.notation.specs.Marks.{opening}
use Rattle.escapes.specs.Hex.{hex_val, hex_digits, hex_from}
use Rattle.escapes.specs.Escapes.{lookup, low_half, code_unit, four_digits, scalar, braced, raw_byte, escape}
use Rattle.units.specs.Units.{unit_at}
use Rattle.strings.specs.Read.{read_units, read_token, read_string}
use Rattle.lines.specs.Line.{read_stripped, strip, trimmed, leads, blank, bare_fault, bare_from, bare, kind_of}
use Rattle.tokens.specs.Words.{same_bytes}
use Rattle.tokens.specs.Numbers.{is_e, is_sign, is_number, in_exp, exp_digits, behind_e, behind_frac, in_frac, behind_point, behind_int, in_int, int, number_kind}
use Rattle.json8.specs.Leaves.{slashed}
use Rattle.tsv8_cells.specs.Parts.{divided, is_gap, is_ignored, lines_left, lines_of}
use Rattle.tsv8_cells.specs.Types.{type_named, types_in, all_strs, all_digits, is_float, is_int}
use Rattle.tsv8_cells.specs.Cells.{cell_at, cells_of}
use Rattle.tsv8.specs.Lines.{sort_of, read_line, read_lines}
use Rattle.tsv8.specs.Read.{SheetRead, read, unread, has_types, behind_names, is_first, read_sheet, read_all}
use Rattle.tsv8.specs.Answers.{Rooms, has_room, read_text}
use Rattle.tsv8_claims.specs.Claims.{CellsReached, Example, examples, ExampleTables, refusals, ExampleRefusals}

-- what is refused needs no room
abbrev RoomFor : Rooms → SheetRead → Type 0
RoomFor r (read ns ts cs bs) = has_room r (length ns) (length cs) (length bs) ≡ true
RoomFor r (unread refusal at) = Unit

record Fitting (r : Rooms) (e : Example) : Type 0 where
  pub short : length (ascii e.text) ≤ text_max
  pub room : RoomFor r e.answer

abbrev AllFitting : Rooms → List Example → Type 0
AllFitting r [] = Unit
AllFitting r (e ∷ es) = Fitting r e × AllFitting r es

text_of : (r : Rooms) (s : List ℕ) (q : SheetRead) → read_all s ≡ q → length s ≤ text_max → RoomFor r q → read_text r s ≡ q
unfolding read_text pick
text_of r s (read ns ts cs bs) e l h = rw (le-ltb text_max (length s) l, e, h)
text_of r s (unread refusal at) e l h = rw (le-ltb text_max (length s) l, e)

-- what holds of texts of any length in every room holds of short ones that find room
all_texts : (r : Rooms) (es : List Example) → map (λ (e : Example). read_all (ascii e.text)) es ≡ map (λ (e : Example). e.answer) es
    → AllFitting r es → map (λ (e : Example). read_text r (ascii e.text)) es ≡ map (λ (e : Example). e.answer) es
all_texts r [] q f = refl
all_texts r (e ∷ es) q (x, y) =
    let a : read_all (ascii e.text) ≡ e.answer = cc in
    let b : map (λ (e : Example). read_all (ascii e.text)) es ≡ map (λ (e : Example). e.answer) es = cc in
    λ i. text_of r (ascii e.text) e.answer a x.short x.room i ∷ all_texts r es b y i

roomy : (r : Rooms) → 4 ≤ r.names → 4 ≤ r.types → 10 ≤ r.cells → 18 ≤ r.store
    → (n c m : ℕ) → n ≤ 4 → c ≤ 10 → m ≤ 18 → has_room r n c m ≡ true
unfolding has_room
roomy r a b c d n k m f g h =
    rw (le-leb n r.names (omega arith), le-leb n r.types (omega arith), le-leb k r.cells (omega arith), le-leb m r.store (omega arith))

tables_read : map (λ (e : Example). read_all (ascii e.text)) examples ≡ map (λ (e : Example). e.answer) examples
unfolding pick class_of low_of high_of two_bytes three_bytes four_bytes long_len len_by char_len encode valid_from hex_val hex_digits hex_from lookup low_half code_unit four_digits scalar braced raw_byte escape unit_at read_units opening read_token read_string blank leads trimmed strip bare_fault bare_from bare kind_of read_stripped same_bytes is_e is_sign is_number in_exp exp_digits behind_e behind_frac in_frac behind_point behind_int in_int int number_kind slashed divided is_gap is_ignored lines_left lines_of type_named types_in all_strs all_digits is_float is_int cell_at cells_of sort_of read_line read_lines has_types behind_names is_first read_sheet read_all
tables_read = refl

pub tables_computed : ExampleTables
tables_computed r a b c d =
    let room = roomy r a b c d in
    all_texts r examples tables_read (
      record { short = lit≤ tt; room = room 2 6 18 (lit≤ tt) (lit≤ tt) (lit≤ tt) },
      (
        record { short = lit≤ tt; room = room 2 10 18 (lit≤ tt) (lit≤ tt) (lit≤ tt) },
        (record { short = lit≤ tt; room = room 4 8 0 (lit≤ tt) (lit≤ tt) (lit≤ tt) }, (record { short = lit≤ tt; room = room 2 2 2 (lit≤ tt) (lit≤ tt) (lit≤ tt) }, tt)),
      ),
    )

-- refused, and short
is_refused : SheetRead → Bool
is_refused (read ns ts cs bs) = false
is_refused (unread refusal at) = true

all_refused : List Example → Bool
all_refused [] = true
all_refused (e ∷ es) = leb (length (ascii e.text)) text_max && (is_refused e.answer && all_refused es)

refused_fits : (r : Rooms) (q : SheetRead) → is_refused q ≡ true → RoomFor r q
unfolding is_refused
refused_fits r (read ns ts cs bs) h = never (let z : false ≡ true = h in cc)
refused_fits r (unread refusal at) h = tt

all_fit : (r : Rooms) (es : List Example) → all_refused es ≡ true → AllFitting r es
unfolding all_refused
all_fit r [] h = tt
all_fit r (e ∷ es) h =
    let m = and_right (leb (length (ascii e.text)) text_max) _ h in (
      record {
        short = leb-true (length (ascii e.text)) text_max (and_left (leb (length (ascii e.text)) text_max) _ h);
        room = refused_fits r e.answer (and_left (is_refused e.answer) _ m);
      },
      all_fit r es (and_right (is_refused e.answer) _ m),
    )

refusals_read : map (λ (e : Example). read_all (ascii e.text)) refusals ≡ map (λ (e : Example). e.answer) refusals
unfolding pick class_of low_of high_of two_bytes three_bytes four_bytes long_len len_by char_len encode valid_from hex_val hex_digits hex_from lookup low_half code_unit four_digits scalar braced raw_byte escape unit_at read_units opening read_token read_string blank leads trimmed strip bare_fault bare_from bare kind_of read_stripped same_bytes is_e is_sign is_number in_exp exp_digits behind_e behind_frac in_frac behind_point behind_int in_int int number_kind slashed divided is_gap is_ignored lines_left lines_of type_named types_in all_strs all_digits is_float is_int cell_at cells_of sort_of read_line read_lines has_types behind_names is_first read_sheet read_all
refusals_read = refl

pub refusals_computed : ExampleRefusals
unfolding all_refused is_refused
refusals_computed r = all_texts r refusals refusals_read (all_fit r refusals refl)

pub cells_computed : CellsReached
unfolding pick class_of low_of high_of two_bytes three_bytes four_bytes long_len len_by char_len encode valid_from hex_val hex_digits hex_from lookup low_half code_unit four_digits scalar braced raw_byte escape unit_at read_units opening read_token read_string blank leads trimmed strip bare_fault bare_from bare kind_of read_stripped same_bytes is_e is_sign is_number in_exp exp_digits behind_e behind_frac in_frac behind_point behind_int in_int int number_kind slashed divided is_gap is_ignored lines_left lines_of type_named types_in all_strs all_digits is_float is_int cell_at cells_of sort_of read_line read_lines has_types behind_names is_first read_sheet read_all
cells_computed = (lit≤ tt, refl)
