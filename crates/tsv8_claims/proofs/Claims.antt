-- The claims of specs/Claims.antt, each from the law that has it.
-- Assumes nothing.
use Prim.Native.Nat.{ℕ, ◌*◌, ◌≤◌, ◌<◌}
use mathlib.Core.Bool.{true, false}
use mathlib.Core.List.{List}
use mathlib.Core.Logic.{◌⊎◌, inl, inr}
use mathlib.Core.Path.{◌≡◌, refl, ap, subst, ◌∙◌}
use native.Mathlib.Omega.{arith}
use lib.Dec.{ltb, leb, lit<}
use lib.ListN.{length}
use borrow.Author.Tests.{ltb-false, le-leb, le-ltb, lt-leb}
use Rattle.prelude.specs.declared.refusals.Refusal.{Refusal}
use Rattle.prelude.specs.Limits.{text_max, column_max}
use Rattle.prelude.specs.Pick.{pick}
use Rattle.prelude.specs.Refusals.{number_of, too_long, cut_off, trailing, no_room, bad_header, utf8_bad_encoding}
use Rattle.prelude.proofs.Numbers.{text_ranges, text_apart}
use Rattle.prelude.proofs.Cases.{split, never}
use Rattle.prelude.proofs.Picks.{and_no_second}
use Rattle.tsv8_cells.specs.Parts.{Part, lines_of}
use Rattle.tsv8_cells.specs.declared.columns.ColumnType.{ColumnType}
use Rattle.tsv8_cells.specs.Cells.{Cell}
use Rattle.tsv8.specs.Read.{SheetRead, read, unread, read_all}
use Rattle.tsv8.specs.Answers.{Rooms, has_room, fitted, read_text}
use Rattle.tsv8_claims.specs.Claims.{AcceptedInAnyRoom, InRange, RangesInside, ColumnsCounted, KindFits, NamesAreStrs, KindsFitTypes, TextFits, TextsFitTypes, LinesCutAlike, name_parts, data_parts, CellsShowTheirTexts, PlacesInside, Numbered, RefusalsNumbered, Placed, RefusalsPlaced, NoLargerThanTheText, CellsTakeBytes, cell_max, CellsCounted, CellsReached, RoomsSuffice, ShortOfRoom, TypesNumbered, Small, NumbersSmall, ExampleTables, ExampleRefusals}
use Rattle.tsv8_claims.proofs.Cutting.{cut_alike}
use Rattle.tsv8_claims.proofs.Counting.{cells_most, flat_length}
use Rattle.tsv8_claims.proofs.Examples.{tables_computed, refusals_computed, cells_computed}
use Rattle.tsv8_claims.proofs.ReadCells.{Told}
use Rattle.tsv8_claims.proofs.ReadTables.{Fits, SheetGot, SheetIs, text_is}
use Rattle.tsv8_claims.proofs.Standing.{extent, text_extent}
use Rattle.tsv8_claims.proofs.Tables.{each_map, table_map}

-- what an accepted text is read to
got_it : (s : List ℕ) (ns : List Cell) (ts : List ColumnType) (cs : List Cell) (bs : List ℕ) → read_all s ≡ read ns ts cs bs
    → SheetGot s (name_parts (lines_of s)) (data_parts (lines_of s)) (extent (lines_of s)) ns ts cs bs
got_it s ns ts cs bs e = subst (SheetIs s (name_parts (lines_of s)) (data_parts (lines_of s)) (extent (lines_of s))) e (text_is s)

pub ranges_inside : RangesInside
ranges_inside s ns ts cs bs e = let x = got_it s ns ts cs bs e in (x.name_ranges, x.cell_ranges)

pub columns_counted : ColumnsCounted
columns_counted s ns ts cs bs e = let x = got_it s ns ts cs bs e in (omega (arith, x.some), omega (arith, x.most), omega (arith, x.typed))

pub names_are_strs : NamesAreStrs
names_are_strs s ns ts cs bs e = (got_it s ns ts cs bs e).names

pub kinds_fit_types : KindsFitTypes
kinds_fit_types s ns ts cs bs e =
    table_map (Fits s) (λ t c. KindFits t c.kind) (λ t c f. f.0) ts cs (got_it s ns ts cs bs e).table

pub texts_fit_types : TextsFitTypes
texts_fit_types s ns ts cs bs e = table_map (Fits s) (TextFits s) (λ t c f. f.1) ts cs (got_it s ns ts cs bs e).table

pub cells_show_their_texts : CellsShowTheirTexts
cells_show_their_texts s ns ts cs bs e = let x = got_it s ns ts cs bs e in (x.name_shows, x.cell_shows)

pub lines_cut_alike : LinesCutAlike
lines_cut_alike s = cut_alike 0 s

pub cells_take_bytes : CellsTakeBytes
cells_take_bytes s ns ts cs bs e =
    let x = got_it s ns ts cs bs e in (
      x.table.rows,
      x.table.whole ∙ ap (λ (n : ℕ). x.table.rows * n) x.typed,
      omega (arith, x.cost, text_extent s),
    )

pub no_larger_than_the_text : NoLargerThanTheText
no_larger_than_the_text s ns ts cs bs e =
    let x = got_it s ns ts cs bs e in
    let c = text_extent s in (omega (arith, x.cost), omega (arith, x.bytes))

-- texts in rooms
fitted_read : (r : Rooms) (q : SheetRead) (ns : List Cell) (ts : List ColumnType) (cs : List Cell) (bs : List ℕ)
    → fitted r q ≡ read ns ts cs bs → q ≡ read ns ts cs bs
unfolding pick
fitted_read r (read ms us ds es) ns ts cs bs h =
    split (has_room r (length ms) (length ds) (length es)) (λ g. rw g at h) (λ g. never (let z = rw g at h in cc))
fitted_read r (unread refusal at) ns ts cs bs h = never cc

pub accepted_in_any_room : AcceptedInAnyRoom
unfolding read_text pick
accepted_in_any_room r s ns ts cs bs h =
    split (ltb text_max (length s)) (λ g. never (let z = rw g at h in cc))
    (λ g. (ltb-false text_max (length s) g, fitted_read r (read_all s) ns ts cs bs (rw g at h)))

-- a refusal and its place
abbrev Requested : List ℕ → Refusal → ℕ → Type 0
Requested s refusal at = Numbered refusal × (at ≤ length s) × Placed s refusal at

whole_placed : (s : List ℕ) (refusal : Refusal) → number_of refusal < number_of bad_header → Placed s refusal 0
whole_placed s refusal h =
    (λ z. absurd (omega (arith, ap number_of z)), λ z. inl refl, λ z. absurd (omega (arith, ap number_of z)), λ z. absurd (omega (arith, ap number_of z)), λ z. refl, λ z. refl)

-- a text's own refusal stands where it stands
text_placed : (s : List ℕ) (refusal : Refusal) (at : ℕ) → ((number_of cut_off ≤ number_of refusal) × (number_of refusal ≤ number_of trailing)) ⊎ (number_of utf8_bad_encoding ≤ number_of refusal) → Placed s refusal at
text_placed s refusal at (inl (a, b)) =
    (λ z. absurd (omega (arith, ap number_of z)), λ z. absurd (omega (arith, ap number_of z)), λ z. absurd (omega (arith, ap number_of z)), λ z. absurd (omega (arith, ap number_of z)), λ z. absurd (omega (arith, ap number_of z)), λ z. absurd (omega (arith, ap number_of z)))
text_placed s refusal at (inr a) =
    (λ z. absurd (omega (arith, ap number_of z)), λ z. absurd (omega (arith, ap number_of z)), λ z. absurd (omega (arith, ap number_of z)), λ z. absurd (omega (arith, ap number_of z)), λ z. absurd (omega (arith, ap number_of z)), λ z. absurd (omega (arith, ap number_of z)))

told_refusal : (s : List ℕ) (refusal : Refusal) (at : ℕ) → Told s refusal at → Requested s refusal at
told_refusal s refusal at (inl a, h) = (inr (inl a), h, text_placed s refusal at (text_ranges refusal a))
told_refusal s refusal at (inr (inl (e, b)), h) = (
  inr (inr (inl (omega (arith, ap number_of e), omega (arith, ap number_of e)))),
  h,
  (λ z. absurd (omega (arith, ap number_of e, ap number_of z)), λ z. b, λ z. absurd (omega (arith, ap number_of e, ap number_of z)), λ z. absurd (omega (arith, ap number_of e, ap number_of z)), λ z. absurd (omega (arith, ap number_of e, ap number_of z)), λ z. absurd (omega (arith, ap number_of e, ap number_of z))),
)
told_refusal s refusal at (inr (inr (inl (e, b))), h) = (
  inr (inr (inl (omega (arith, ap number_of e), omega (arith, ap number_of e)))),
  h,
  (λ z. b, λ z. absurd (omega (arith, ap number_of e, ap number_of z)), λ z. absurd (omega (arith, ap number_of e, ap number_of z)), λ z. absurd (omega (arith, ap number_of e, ap number_of z)), λ z. absurd (omega (arith, ap number_of e, ap number_of z)), λ z. absurd (omega (arith, ap number_of e, ap number_of z))),
)
told_refusal s refusal at (inr (inr (inr (inl e, b))), h) = (
  inr (inr (inl (omega (arith, ap number_of e), omega (arith, ap number_of e)))),
  h,
  (λ z. absurd (omega (arith, ap number_of e, ap number_of z)), λ z. absurd (omega (arith, ap number_of e, ap number_of z)), λ z. b, λ z. b, λ z. absurd (omega (arith, ap number_of e, ap number_of z)), λ z. absurd (omega (arith, ap number_of e, ap number_of z))),
)
told_refusal s refusal at (inr (inr (inr (inr e, b))), h) = (
  inr (inr (inl (omega (arith, ap number_of e), omega (arith, ap number_of e)))),
  h,
  (λ z. absurd (omega (arith, ap number_of e, ap number_of z)), λ z. absurd (omega (arith, ap number_of e, ap number_of z)), λ z. b, λ z. b, λ z. absurd (omega (arith, ap number_of e, ap number_of z)), λ z. absurd (omega (arith, ap number_of e, ap number_of z))),
)

fitted_refusal : (r : Rooms) (s : List ℕ) (os ps : List Part) (k : ℕ) (q : SheetRead) → SheetIs s os ps k q → (refusal : Refusal) (at : ℕ) → fitted r q ≡ unread refusal at
    → Requested s refusal at
unfolding pick
fitted_refusal r s os ps k (read ns ts cs bs) x refusal at h =
    split (has_room r (length ns) (length cs) (length bs)) (λ g. never (let z = rw g at h in cc))
    (λ g. let z = rw g at h in
    let a : no_room ≡ refusal = cc in
    let b : 0 ≡ at = cc in
    rw (← a, ← b) (inr (inr (inr refl)), omega arith, whole_placed s no_room (lit< tt)))
fitted_refusal r s os ps k (unread n p) x refusal at h =
    let a : n ≡ refusal = cc in
    let b : p ≡ at = cc in
    told_refusal s refusal at (rw (← a, ← b) x)

requested : (r : Rooms) (s : List ℕ) (refusal : Refusal) (at : ℕ) → read_text r s ≡ unread refusal at → Requested s refusal at
unfolding read_text pick
requested r s refusal at h =
    split (ltb text_max (length s))
    (λ g. let z = rw g at h in
    let a : too_long ≡ refusal = cc in
    let b : 0 ≡ at = cc in
    rw (← a, ← b) (inl refl, omega arith, whole_placed s too_long (lit< tt)))
    (λ g. fitted_refusal r s (name_parts (lines_of s)) (data_parts (lines_of s)) (extent (lines_of s)) (read_all s) (text_is s) refusal at (rw g at h))

pub places_inside : PlacesInside
places_inside r s refusal at h = omega (arith, (requested r s refusal at h).1)

pub refusals_numbered : RefusalsNumbered
refusals_numbered r s refusal at h = (requested r s refusal at h).0

pub refusals_placed : RefusalsPlaced
refusals_placed r s refusal at h = (requested r s refusal at h).2

-- the most cells
few_cells : (s : List ℕ) (ns : List Cell) (ts : List ColumnType) (cs : List Cell) (bs : List ℕ) → length s ≤ text_max
    → read_all s ≡ read ns ts cs bs → length cs ≤ cell_max
few_cells s ns ts cs bs l e =
    let x = columns_counted s ns ts cs bs e in
    let y = cells_take_bytes s ns ts cs bs e in
    let w : length cs ≡ y.0 * length ns = y.1 in
    let m : y.0 * length ns ≤ cell_max = cells_most (length ns) y.0 x.1 (omega (arith, y.2, w)) in omega arith

pub cells_counted : CellsCounted
cells_counted r s ns ts cs bs h =
    let a = accepted_in_any_room r s ns ts cs bs h in
    let m : length cs ≤ cell_max = few_cells s ns ts cs bs a.0 a.1 in (m, omega (arith, flat_length cs))

pub cells_reached : CellsReached
cells_reached = cells_computed

ample : (r : Rooms) → column_max ≤ r.names → column_max ≤ r.types → cell_max ≤ r.cells → text_max ≤ r.store
    → (s : List ℕ) → length s ≤ text_max → (q : SheetRead) → read_all s ≡ q → (at : ℕ) → fitted r q ≡ unread no_room at → ⊥
unfolding pick has_room
ample r a b c d s l (read ns ts cs bs) e at h =
    let x = columns_counted s ns ts cs bs e in
    let y = no_larger_than_the_text s ns ts cs bs e in
    let m : length cs ≤ cell_max = few_cells s ns ts cs bs l e in
    let f : leb (length ns) r.names ≡ true = le-leb (length ns) r.names (omega (arith, x.1)) in
    let g : leb (length ns) r.types ≡ true = le-leb (length ns) r.types (omega (arith, x.1)) in
    let i : leb (length cs) r.cells ≡ true = le-leb (length cs) r.cells (omega arith) in
    let j : leb (length bs) r.store ≡ true = le-leb (length bs) r.store (omega (arith, y.1)) in
    never (let z = rw (f, g, i, j) at h in cc)
ample r a b c d s l (unread refusal p) e at h =
    let z : refusal ≡ no_room = cc in none (subst (SheetIs s (name_parts (lines_of s)) (data_parts (lines_of s)) (extent (lines_of s))) e (text_is s)) z
  where
    none : Told s refusal p → refusal ≡ no_room → ⊥
    none (inl t, i) z = text_apart refusal t z
    none (inr (inl (t, b)), i) z = omega (arith, ap number_of t, ap number_of z)
    none (inr (inr (inl (t, b))), i) z = omega (arith, ap number_of t, ap number_of z)
    none (inr (inr (inr (inl t, b))), i) z = omega (arith, ap number_of t, ap number_of z)
    none (inr (inr (inr (inr t, b))), i) z = omega (arith, ap number_of t, ap number_of z)

pub rooms_suffice : RoomsSuffice
unfolding read_text pick
rooms_suffice r a b c d s at h =
    split (ltb text_max (length s)) (λ g. let z = rw g at h in let n : too_long ≡ no_room = cc in absurd (omega (arith, ap number_of n)))
    (λ g. ample r a b c d s (ltb-false text_max (length s) g) (read_all s) refl at (rw g at h))

no_room_lem : (r : Rooms) (n c m : ℕ) → (r.names < n) ⊎ ((r.types < n) ⊎ ((r.cells < c) ⊎ (r.store < m))) → has_room r n c m ≡ false
unfolding has_room
no_room_lem r n c m (inl h) = rw (lt-leb n r.names h)
no_room_lem r n c m (inr (inl h)) = rw (lt-leb n r.types h) (and_no_second (leb n r.names) false refl)
no_room_lem r n c m (inr (inr (inl h))) =
    rw (lt-leb c r.cells h)
    (and_no_second (leb n r.names) _ (and_no_second (leb n r.types) false refl))
no_room_lem r n c m (inr (inr (inr h))) =
    rw (lt-leb m r.store h)
    (and_no_second (leb n r.names) _ (and_no_second (leb n r.types) _ (and_no_second (leb c r.cells) false refl)))

pub short_of_room : ShortOfRoom
unfolding read_text pick
short_of_room r s ns ts cs bs l e h = rw (le-ltb text_max (length s) l, e, no_room_lem r (length ns) (length cs) (length bs) h)

pub types_numbered : TypesNumbered
types_numbered = refl

-- the numbers of names and cells
small : (n m : ℕ) → n ≤ text_max → m ≤ text_max → (c : Cell) → InRange n m c → Small c
small n m h g c (inl a) = (omega (arith, a.1), omega (arith, a.2), omega (arith, a.2))
small n m h g c (inr a) = (omega (arith, a.0), omega (arith, a.1), omega (arith, a.1))

pub numbers_small : NumbersSmall
numbers_small r s ns ts cs bs h =
    let a = accepted_in_any_room r s ns ts cs bs h in
    let x = ranges_inside s ns ts cs bs a.1 in
    let y = no_larger_than_the_text s ns ts cs bs a.1 in
    let f = small (length s) (length bs) a.0 (omega (arith, a.0, y.1)) in
    (each_map (InRange (length s) (length bs)) Small f ns x.0, each_map (InRange (length s) (length bs)) Small f cs x.1)

pub example_tables : ExampleTables
example_tables = tables_computed

pub example_refusals : ExampleRefusals
example_refusals = refusals_computed
