-- How a run ends, by what the reader says: of an accepted log what its lines ask for, and that they are printed.
-- Assumes nothing.
use Prim.Native.Nat.{ℕ, ◌*◌, ◌/◌, ◌≤◌, ◌<◌}
use mathlib.Core.Bool.{Bool, true, false}
use mathlib.Core.List.{List, ◌++◌}
use mathlib.Core.Path.{◌≡◌, refl, sym, ap, ap₂, subst, ◌∙◌}
use native.Mathlib.Omega.{arith}
use lib.ListN.{length, drop, length-append}
use Rattle.std.specs.Prelude.{Result, Ok, Err}
use Rattle.prelude.proofs.Cases.{never}
use Rattle.prelude.specs.declared.refusals.Refused.{Refused}
use Rattle.prelude.specs.Refusals.{number_of}
use Rattle.tsv8_cells.specs.Cells.{Cell}
use Rattle.tsv8.specs.Read.{SheetRead, read, unread}
use Rattle.tsv8.specs.Answers.{Rooms, rooms_of, read_text, sheet_of, flat, names_after, cells_after, store_after}
use Rattle.tsv8.specs.declared.answers.Sheet.{Sheet}
use Rattle.tsv8.proofs.Filling.{flat_length}
use Rattle.tsv8_claims.proofs.Claims.{accepted_in_any_room, columns_counted, ranges_inside}
use Rattle.command_outputs.specs.declared.outcomes.Outcome.{Outcome}
use Rattle.command_outputs.specs.Outcomes.{refused_at}
use Rattle.command_outputs.specs.Pages.{AllPrinted, fresh_page}
use Rattle.command_sheets.specs.Runs.{log_of, Listed}
use Rattle.command_sheets.specs.inner.Tables.{table_line}
use Rattle.command_sheets.proofs.Lines.{line_same}
use Rattle.command_sheets.proofs.Printing.{all_same}

abbrev is_done : Result Sheet Refused → Bool
is_done (Ok x) = true
is_done (Err f) = false

abbrev columns_of : Result Sheet Refused → ℕ
columns_of (Ok x) = x.columns
columns_of (Err f) = 0

abbrev cells_of : Result Sheet Refused → ℕ
cells_of (Ok x) = x.cells
cells_of (Err f) = 0

abbrev fault_in : Refused → Result Sheet Refused → Refused
fault_in d (Ok x) = d
fault_in d (Err f) = f

-- what is answered for a refusal
abbrev pub refused_by : List ℕ → Refused → Outcome
refused_by text f = refused_at text (number_of f.refusal) f.place

-- the rooms for names and types are those that every log's find
pub log_rooms : (names types table store text : List ℕ) → length names ≡ 192 → length types ≡ 64 → read_text (rooms_of names types table store) text ≡ log_of table store text
log_rooms names types table store text a b =
    ap₂ (λ (n t : ℕ). read_text (record { names = n / 3; types = t; cells = length table / 3; store = length store }) text) a b

-- what a room in front of a table has at least
room_front : (cs : List Cell) (rest : List ℕ) → 3 * length cs ≤ length (flat cs ++ rest)
room_front cs rest = omega (arith, length-append (flat cs) rest, flat_length cs)

module _ (text : List ℕ) (names table store : List ℕ) (names' table' store' : List ℕ) (x : Sheet) where
  -- what the lines of an accepted log ask for
  abbrev Asked : Type 0
  Asked = (0 < x.columns) × (3 * x.columns ≤ length names') × (3 * x.cells ≤ length table')

  pub asked : (rooms : Rooms) (r : SheetRead) → read_text rooms text ≡ r → sheet_of r ≡ Ok x
      → names' ≡ names_after r names → table' ≡ cells_after r table → Asked
  asked rooms (read ns ts cs bs) e s f g =
      let c : length ns ≡ x.columns = ap columns_of s in
      let k : length cs ≡ x.cells = ap cells_of s in
      let some = (columns_counted text ns ts cs bs (accepted_in_any_room rooms text ns ts cs bs e).1).0 in (
        omega (arith, c, some),
        omega (arith, c, ap length f, room_front ns (drop (length (flat ns)) names)),
        omega (arith, k, ap length g, room_front cs (drop (length (flat cs)) table)),
      )
  asked rooms (unread refusal place) e s f g = never (let z : false ≡ true = ap is_done s in cc)

  pub listed : (rooms : Rooms) (r : SheetRead) → read_text rooms text ≡ r → sheet_of r ≡ Ok x
      → names' ≡ names_after r names → table' ≡ cells_after r table → store' ≡ store_after r store
      → (terminal : Bool) (page shown : List ℕ) (o : Outcome) (page' shown' : List ℕ)
      → AllPrinted (table_line x.columns text names' table' store') x.cells terminal page shown o page' shown' → Listed text r terminal page shown o page' shown'
  listed rooms (read ns ts cs bs) e s f g h terminal page shown o page' shown' w =
      let c : length ns ≡ x.columns = ap columns_of s in
      let k : length cs ≡ x.cells = ap cells_of s in
      let a = (accepted_in_any_room rooms text ns ts cs bs e).1 in
      let some = (columns_counted text ns ts cs bs a).0 in
      let inside = ranges_inside text ns ts cs bs a in
      let same : (i : ℕ) → i < length cs → table_line x.columns text names' table' store' i ≡ _ =
      λ i l. (λ y. table_line (sym c y) text (f y) (g y) (h y) i)
      ∙ line_same text ns cs bs (omega (arith, some)) inside.0 inside.1 (drop (length (flat ns)) names) (drop (length (flat cs)) table) (drop (length bs) store) i l in
      let y = subst (λ (n : ℕ). AllPrinted (table_line x.columns text names' table' store') n terminal page shown o page' shown') (sym k) w in
      record {
        last = y.last;
        left = y.left;
        end = y.end;
        added = all_same _ _ (length cs) same (fresh_page terminal) page shown y.last page' y.left y.added;
        printed = y.printed;
        outcome = y.outcome;
      }
  listed rooms (unread refusal place) e s f g h terminal page shown o page' shown' w = never (let z : false ≡ true = ap is_done s in cc)

-- a refused log
pub unlisted : (text : List ℕ) (r : SheetRead) (f : Refused) (terminal : Bool) (page shown : List ℕ) (o : Outcome) → sheet_of r ≡ Err f → o ≡ refused_by text f
    → Listed text r terminal page shown o page shown
unlisted text (read ns ts cs bs) f terminal page shown o s e = never (let z : true ≡ false = ap is_done s in cc)
unlisted text (unread m q) f terminal page shown o s e = (e ∙ ap (λ (x : Result Sheet Refused). refused_by text (fault_in f x)) (sym s), refl, refl)

-- the same of what the reader answers and leaves
module _ (text names types table store : List ℕ) {names' table' store' : List ℕ} {s : Result Sheet Refused} (answer : s ≡ sheet_of (read_text (rooms_of names types table store) text)) (f : names' ≡ names_after (read_text (rooms_of names types table store) text) names) (g : table' ≡ cells_after (read_text (rooms_of names types table store) text) table) (h : store' ≡ store_after (read_text (rooms_of names types table store) text) store) where
  pub done_asked : (x : Sheet) → s ≡ Ok x → (0 < x.columns) × (3 * x.columns ≤ length names') × (3 * x.cells ≤ length table')
  done_asked x e =
      asked text names table store names' table' store' x (rooms_of names types table store) (read_text (rooms_of names types table store) text) refl (sym answer ∙ e) f g

  module _ (a : length names ≡ 192) (b : length types ≡ 64) where
    pub cells_there : table' ≡ cells_after (log_of table store text) table
    cells_there = g ∙ ap (λ (r : SheetRead). cells_after r table) (log_rooms names types table store text a b)

    pub bytes_there : store' ≡ store_after (log_of table store text) store
    bytes_there = h ∙ ap (λ (r : SheetRead). store_after r store) (log_rooms names types table store text a b)

    pub done_listed : (x : Sheet) → s ≡ Ok x → (terminal : Bool) (page shown : List ℕ) (o : Outcome) (page' shown' : List ℕ)
        → AllPrinted (table_line x.columns text names' table' store') x.cells terminal page shown o page' shown' → Listed text (log_of table store text) terminal page shown o page' shown'
    done_listed x e terminal page shown o page' shown' w =
        subst (λ (r : SheetRead). Listed text r terminal page shown o page' shown') (log_rooms names types table store text a b)
        (listed text names table store names' table' store' x (rooms_of names types table store) (read_text (rooms_of names types table store) text) refl (sym answer ∙ e) f g h
        terminal page shown o page' shown' w)

    pub refused_listed : (f : Refused) → s ≡ Err f → (terminal : Bool) (page shown : List ℕ) (o : Outcome) → o ≡ refused_by text f
        → Listed text (log_of table store text) terminal page shown o page shown
    refused_listed x e terminal page shown o w =
        subst (λ (r : SheetRead). Listed text r terminal page shown o page shown) (log_rooms names types table store text a b)
        (unlisted text (read_text (rooms_of names types table store) text) x terminal page shown o (sym answer ∙ e) w)
