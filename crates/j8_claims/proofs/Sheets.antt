-- A call of `j8_tsv8_read` by what its text is read to: the numbers in front of the buffers are those of the names, types and cells read, so that
-- what is claimed of these holds of the buffers.
-- Assumes nothing.
use Prim.Native.Nat.{ℕ, zero, suc, ◌*◌, ◌/◌, ◌≤◌}
use mathlib.Core.Bool.{true, ◌&&◌}
use mathlib.Core.List.{List, [], ◌∷◌, ◌++◌, map}
use mathlib.Core.Logic.{◌⊎◌, inl, inr}
use mathlib.Core.Path.{◌≡◌, refl, sym, ap, ◌∙◌}
use native.Mathlib.Omega.{arith}
use lib.Dec.{ltb, leb, lit≤}
use lib.ListN.{length, drop, length-append}
use lib.Seq.{take-append_seam, drop-append_seam}
use borrow.Author.Tests.{leb-true, le-leb, le-ltb, ltb-false}
use Rattle.prelude.specs.Limits.{text_max, column_max}
use Rattle.prelude.specs.Pick.{pick}
use Rattle.prelude.specs.declared.refusals.Refusal.{Refusal}
use Rattle.prelude.specs.Refusals.{too_long, no_room, number_of}
use Rattle.prelude.proofs.Cases.{split, never, and_left, and_right}
use Rattle.prelude.proofs.Numbers.{number_positive, number_injective}
use Rattle.tsv8_cells.specs.declared.columns.ColumnType.{ColumnType}
use Rattle.tsv8_cells.specs.Types.{type_number}
use Rattle.tsv8_cells.specs.Cells.{Cell}
use Rattle.tsv8.specs.Read.{SheetRead, read, unread, read_all}
use Rattle.tsv8.specs.Answers.{Rooms, rooms_of, has_room, fitted, read_text, flat, front}
use Rattle.tsv8_claims.specs.Claims.{Accepted, cell_max}
use Rattle.tsv8_claims.proofs.Claims.{accepted_in_any_room, columns_counted, places_inside, refusals_numbered, refusals_placed, no_larger_than_the_text, cells_take_bytes, cells_counted, rooms_suffice, ranges_inside, names_are_strs, kinds_fit_types, texts_fit_types, cells_show_their_texts}
use Rattle.tsv8_claims.proofs.Counting.{flat_length}
use Rattle.structs.specs.declared.sheets.J8Sheet.{J8Sheet}
use Rattle.j8.specs.Runs.{RanSheet, tsv8_read}
use Rattle.j8_claims.specs.Sheets.{cells_in, read_names, read_cells, read_store, Typed, TextHolds, SheetFits, SheetDone, SheetRefused, names_room, types_room, cells_room, text_cells_room, store_room}
use Rattle.j8_claims.specs.Claims.{SheetCalls, CRowsAreWhole, CRangesInside, CKindsFitTypes, CCellsShowTheirTexts}

-- the numbers of cells, with anything behind them, are those cells
cells_in_lem : (cs : List Cell) (rest : List ℕ) → cells_in (length cs) (flat cs ++ rest) ≡ cs
unfolding flat
cells_in_lem [] rest = refl
cells_in_lem (c ∷ cs) rest = ap (λ (ds : List Cell). c ∷ ds) (cells_in_lem cs rest)

types_length : (ts : List ColumnType) → length (map type_number ts) ≡ length ts
types_length [] = refl
types_length (t ∷ ts) = ap suc (types_length ts)

-- what has room, as lengths of the buffers
module _ (r : Rooms) (n c m : ℕ) where
  roomy : n ≤ r.names → n ≤ r.types → c ≤ r.cells → m ≤ r.store → has_room r n c m ≡ true
  unfolding has_room
  roomy h i j k = rw (le-leb n r.names h, le-leb n r.types i, le-leb c r.cells j, le-leb m r.store k)

  room_names : has_room r n c m ≡ true → n ≤ r.names
  unfolding has_room
  room_names e = leb-true n r.names (and_left (leb n r.names) (leb n r.types && (leb c r.cells && leb m r.store)) e)

  room_types : has_room r n c m ≡ true → n ≤ r.types
  unfolding has_room
  room_types e =
      leb-true n r.types
      (and_left (leb n r.types) (leb c r.cells && leb m r.store) (and_right (leb n r.names) (leb n r.types && (leb c r.cells && leb m r.store)) e))

  behind : has_room r n c m ≡ true → leb c r.cells && leb m r.store ≡ true
  unfolding has_room
  behind e =
      and_right (leb n r.types) (leb c r.cells && leb m r.store) (and_right (leb n r.names) (leb n r.types && (leb c r.cells && leb m r.store)) e)

  room_cells : has_room r n c m ≡ true → c ≤ r.cells
  room_cells e = leb-true c r.cells (and_left (leb c r.cells) (leb m r.store) (behind e))

  room_store : has_room r n c m ≡ true → m ≤ r.store
  room_store e = leb-true m r.store (and_right (leb c r.cells) (leb m r.store) (behind e))

-- an accepted text in a room
module _ (r : Rooms) (s : List ℕ) (ns : List Cell) (ts : List ColumnType) (cs : List Cell) (bs : List ℕ) where
  taken : TextHolds s ns ts cs bs → has_room r (length ns) (length cs) (length bs) ≡ true → read_text r s ≡ read ns ts cs bs
  unfolding read_text pick
  taken h e = rw (le-ltb text_max (length s) h.short, h.accepted, e)

  had_room : read_text r s ≡ read ns ts cs bs → has_room r (length ns) (length cs) (length bs) ≡ true
  unfolding read_text pick
  had_room h =
      let a = accepted_in_any_room r s ns ts cs bs h in
      split (has_room r (length ns) (length cs) (length bs)) (λ g. g)
      (λ g. never (let z = rw (le-ltb text_max (length s) a.0, a.1, g) at h in cc))

module _ (text names types cells store : List ℕ) where
  abbrev rooms : Rooms
  rooms = rooms_of names types cells store

  abbrev ran : RanSheet
  ran = tsv8_read text names types cells store

  -- a call is one on a text that is accepted and has room, or on one that is refused
  pub by_read : (P : RanSheet → Type 0)
      → ((ns : List Cell) (ts : List ColumnType) (cs : List Cell) (bs : List ℕ) → read_text rooms text ≡ read ns ts cs bs
      → P (record {
        result = record { number = 0; place = 0; columns = length ns; cells = length cs; stored = length bs };
        names = front (flat ns) names;
        types = front (map type_number ts) types;
        cells = front (flat cs) cells;
        store = front bs store;
      }))
      → ((refusal : Refusal) (at : ℕ) → read_text rooms text ≡ unread refusal at
      → P (record {
        result = record { number = number_of refusal; place = at; columns = 0; cells = 0; stored = 0 };
        names = names;
        types = types;
        cells = cells;
        store = store;
      }))
      → P ran
  by_read P f g = go (read_text rooms text) refl
    where
      go : (q : SheetRead) → read_text rooms text ≡ q → P ran
      go (read ns ts cs bs) e = rw e (f ns ts cs bs e)
      go (unread refusal at) e = rw e (g refusal at e)

  -- a call on an accepted text
  module _ (ns : List Cell) (ts : List ColumnType) (cs : List Cell) (bs : List ℕ) (e : read_text rooms text ≡ read ns ts cs bs) where
    abbrev after : RanSheet
    after =
        record {
          result = record { number = 0; place = 0; columns = length ns; cells = length cs; stored = length bs };
          names = front (flat ns) names;
          types = front (map type_number ts) types;
          cells = front (flat cs) cells;
          store = front bs store;
        }

    room_for : has_room rooms (length ns) (length cs) (length bs) ≡ true
    room_for = had_room rooms text ns ts cs bs e

    fits_in : SheetFits (length ns) (length cs) (length bs) names types cells store
    fits_in =
        let a : length ns ≤ length names / 3 = room_names rooms (length ns) (length cs) (length bs) room_for in
        let b : length cs ≤ length cells / 3 = room_cells rooms (length ns) (length cs) (length bs) room_for in
        record {
          in_names = omega arith;
          in_types = room_types rooms (length ns) (length cs) (length bs) room_for;
          in_cells = omega arith;
          in_store = room_store rooms (length ns) (length cs) (length bs) room_for;
        }

    behind_flat : (ds : List Cell) (out : List ℕ) → drop (3 * length ds) (front (flat ds) out) ≡ drop (3 * length ds) out
    behind_flat ds out =
        rw (sym (flat_length ds)) (drop-append_seam (flat ds) (drop (length (flat ds)) out))

    within_flat : (ds : List Cell) (out : List ℕ) → 3 * length ds ≤ length (front (flat ds) out)
    within_flat ds out = omega (arith, flat_length ds, length-append (flat ds) (drop (length (flat ds)) out))

    typed_as : length (map type_number ts) ≡ length ns
    typed_as = types_length ts ∙ (columns_counted text ns ts cs bs (accepted_in_any_room rooms text ns ts cs bs e).1).2

    done : SheetDone text after names types cells store
    done =
        record {
          column_types = ts;
          typed = sym (rw (sym typed_as) (take-append_seam (map type_number ts) (drop (length (map type_number ts)) types)));
          holds =
              rw (cells_in_lem ns (drop (length (flat ns)) names), cells_in_lem cs (drop (length (flat cs)) cells), take-append_seam bs (drop (length bs) store))
              (record { short = (accepted_in_any_room rooms text ns ts cs bs e).0; accepted = (accepted_in_any_room rooms text ns ts cs bs e).1 });
          fits = fits_in;
          within =
              record {
                in_names = omega (arith, within_flat ns names);
                in_types = omega (arith, typed_as, length-append (map type_number ts) (drop (length (map type_number ts)) types));
                in_cells = omega (arith, within_flat cs cells);
                in_store = omega (arith, length-append bs (drop (length bs) store));
              };
          at_place = refl;
          kept =
              record {
                names_rest = behind_flat ns names;
                types_rest = rw (sym typed_as) (drop-append_seam (map type_number ts) (drop (length (map type_number ts)) types));
                cells_rest = behind_flat cs cells;
                store_rest = drop-append_seam bs (drop (length bs) store);
              };
        }

  pub sheet_done : ran.result.number ≡ 0 → SheetDone text ran names types cells store
  sheet_done =
      by_read (λ r. r.result.number ≡ 0 → SheetDone text r names types cells store) (λ ns ts cs bs e z. done ns ts cs bs e)
      (λ refusal at e z. absurd (omega (arith, z, number_positive refusal)))

  pub done_or_refused : (ran.result.number ≡ 0) ⊎ SheetRefused text ran names types cells store
  done_or_refused =
      by_read (λ r. (r.result.number ≡ 0) ⊎ SheetRefused text r names types cells store) (λ ns ts cs bs e. inl refl)
      (λ refusal at e. inr (record {
        refusal = refusal;
        told = refl;
        numbered = refusals_numbered rooms text refusal at e;
        inside = omega (arith, places_inside rooms text refusal at e);
        placed = refusals_placed rooms text refusal at e;
        no_columns = refl;
        no_cells = refl;
        nothing_stored = refl;
        names_kept = refl;
        types_kept = refl;
        cells_kept = refl;
        store_kept = refl;
      }))

  -- a text that is accepted, with room
  pub sheet_read : (ns : List Cell) (ts : List ColumnType) (cs : List Cell) (bs : List ℕ) → TextHolds text ns ts cs bs
      → SheetFits (length ns) (length cs) (length bs) names types cells store
      → ran.result ≡ record { number = 0; place = 0; columns = length ns; cells = length cs; stored = length bs }
  sheet_read ns ts cs bs h f =
      let e : read_text rooms text ≡ read ns ts cs bs =
      taken rooms text ns ts cs bs h
      (roomy rooms (length ns) (length cs) (length bs) (omega (arith, f.in_names)) f.in_types (omega (arith, f.in_cells)) f.in_store) in
      rw e

-- room where there is more than enough
abbrev ample : Rooms
ample = record { names = column_max; types = column_max; cells = cell_max; store = text_max }

-- a text that is refused for want of room alone has no fault
module _ (s : List ℕ) where
  abbrev Held : Type 0
  Held = (ns : List Cell) × ((ts : List ColumnType) × ((cs : List Cell) × ((bs : List ℕ) × TextHolds s ns ts cs bs)))

  faultless : (r : Rooms) (l : length s ≤ text_max) (q : SheetRead) → read_all s ≡ q → (at : ℕ) → fitted r q ≡ unread no_room at → Held
  unfolding read_text pick
  faultless r l (read ns ts cs bs) e at h = (ns, (ts, (cs, (bs, record { short = l; accepted = e }))))
  faultless r l (unread refusal p) e at h =
      let z : refusal ≡ no_room = cc in
      let f : read_text ample s ≡ unread no_room p = rw (le-ltb text_max (length s) l, e, z) in
      absurd (rooms_suffice ample (lit≤ tt) (lit≤ tt) (lit≤ tt) (lit≤ tt) s p f)

  no_room_left : (r : Rooms) (at : ℕ) → read_text r s ≡ unread no_room at → Held
  unfolding read_text pick
  no_room_left r at h =
      split (ltb text_max (length s)) (λ g. let z = rw g at h in let n : too_long ≡ no_room = cc in absurd (omega (arith, ap number_of n)))
      (λ g. faultless r (ltb-false text_max (length s) g) (read_all s) refl at (rw g at h))

  -- how much an accepted text can hold
  module _ (ns : List Cell) (ts : List ColumnType) (cs : List Cell) (bs : List ℕ) (h : TextHolds s ns ts cs bs) where
    abbrev just : Rooms
    just = record { names = length ns; types = length ns; cells = length cs; store = length bs }

    few_cells : length cs ≤ cell_max
    few_cells =
        (cells_counted just s ns ts cs bs
        (taken just s ns ts cs bs h
        (roomy just (length ns) (length cs) (length bs) (omega arith) (omega arith) (omega arith) (omega arith)))).0

    cells_fit : (n : ℕ) → (cells_room ≤ n) ⊎ (text_cells_room (length s) ≤ n) → 3 * length cs ≤ n
    cells_fit n (inl a) = let b : length cs ≤ cell_max = few_cells in omega arith
    cells_fit n (inr a) =
        let y = cells_take_bytes s ns ts cs bs h.accepted in let b : 2 * length cs ≤ length s = omega (arith, y.2) in omega arith

    pub ample_room : (names types cells store : List ℕ) → names_room ≤ length names → types_room ≤ length types
        → (cells_room ≤ length cells) ⊎ (text_cells_room (length s) ≤ length cells) → store_room (length s) ≤ length store
        → SheetFits (length ns) (length cs) (length bs) names types cells store
    ample_room names types cells store a b c d =
        let x = columns_counted s ns ts cs bs h.accepted in
        let y = no_larger_than_the_text s ns ts cs bs h.accepted in
        record {
          in_names = omega (arith, x.1);
          in_types = omega (arith, x.1);
          in_cells = omega (arith, cells_fit (length cells) c);
          in_store = omega (arith, y.1);
        }

-- what is claimed of every accepted text, of what stands in the buffers
of_buffers : (P : List ℕ → List Cell → List ColumnType → List Cell → List ℕ → Type 0) → Accepted P
    → SheetCalls (λ text r. (ts : List ColumnType) × (Typed r ts × P text (read_names r) ts (read_cells r) (read_store r)))
of_buffers P f text names types cells store z =
    let x = sheet_done text names types cells store z in
    (x.column_types, (x.typed, f text _ _ _ _ x.holds.accepted))

-- the counts are those of the buffers' names and cells
cells_length : (n : ℕ) (w : List ℕ) → length (cells_in n w) ≡ n
cells_length zero w = refl
cells_length (suc n) w = ap suc (cells_length n (drop 3 w))

pub rows_whole : CRowsAreWhole
rows_whole text names types cells store z =
    let r : RanSheet = tsv8_read text names types cells store in
    let (ts, (t, a)) = of_buffers _ columns_counted text names types cells store z in
    let (us, (u, b)) = of_buffers _ cells_take_bytes text names types cells store z in
    let n : length (read_names r) ≡ r.result.columns = cells_length r.result.columns r.names in
    let c : length (read_cells r) ≡ r.result.cells = cells_length r.result.cells r.cells in
    (omega (arith, a.0), omega (arith, a.1), (b.0, sym c ∙ b.1 ∙ ap (λ (k : ℕ). b.0 * k) n))

stored_length : SheetCalls (λ text r. length (read_store r) ≡ r.result.stored)
stored_length text names types cells store =
    by_read text names types cells store (λ r. r.result.number ≡ 0 → length (read_store r) ≡ r.result.stored)
    (λ ns ts cs bs e z. ap (λ (w : List ℕ). length w) (take-append_seam bs (drop (length bs) store)))
    (λ refusal at e z. refl)

pub ranges_in : CRangesInside
ranges_in text names types cells store z =
    let n = stored_length text names types cells store z in
    let a = (of_buffers _ ranges_inside text names types cells store z).1.1 in rw n at a

pub kinds_fit : CKindsFitTypes
kinds_fit text names types cells store z =
    let x = sheet_done text names types cells store z in
    let e = x.holds.accepted in
    (names_are_strs text _ _ _ _ e, (x.column_types, (x.typed, kinds_fit_types text _ _ _ _ e, texts_fit_types text _ _ _ _ e)))

pub texts_shown : CCellsShowTheirTexts
texts_shown text names types cells store z = (of_buffers _ cells_show_their_texts text names types cells store z).1.1

module _ (text names types cells store : List ℕ) where
  pub room_last : (tsv8_read text names types cells store).result.number ≡ number_of no_room → Held text
  room_last =
      by_read text names types cells store (λ r. r.result.number ≡ number_of no_room → Held text)
      (λ ns ts cs bs e z. let n : 0 ≡ number_of no_room = z in absurd (omega (arith, n)))
      (λ refusal at e z. no_room_left text (rooms_of names types cells store) at (e ∙ ap (λ (r : Refusal). unread r at) (number_injective refusal no_room z)))

  pub room_enough : names_room ≤ length names → types_room ≤ length types
      → (cells_room ≤ length cells) ⊎ (text_cells_room (length text) ≤ length cells) → store_room (length text) ≤ length store
      → (tsv8_read text names types cells store).result.number ≡ number_of no_room → ⊥
  room_enough a b c d z =
      let (ns, (ts, (cs, (bs, h)))) = room_last z in
      let e = ap (λ (r : J8Sheet). r.number)
      (sheet_read text names types cells store ns ts cs bs h (ample_room text ns ts cs bs h names types cells store a b c d)) in
      let n : 0 ≡ number_of no_room = sym e ∙ z in omega (arith, n)
