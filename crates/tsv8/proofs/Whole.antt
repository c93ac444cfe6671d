-- A whole text: it is judged, and what it holds is stored where there is room for all.
-- Assumes nothing.
use Prim.Native.Nat.{ℕ, zero, suc, ◌+◌, ◌*◌, ◌/◌, ◌≤◌, ◌<◌}
use mathlib.Core.Bool.{Bool, true, false, ◌&&◌}
use mathlib.Core.List.{List, ◌∷◌, ◌++◌, map}
use mathlib.Core.Path.{◌≡◌, refl, sym, ap, ◌∙◌}
use native.Mathlib.Nat.{zero-add}
use native.Mathlib.Omega.{arith}
use borrow.Author.Tests.{lt-ltb, le-ltb, le-leb, lt-leb, leb-true}
use lib.Dec.{leb}
use lib.ListN.{length, take, length-append}
use lib.Seq.{sets, length-sets}
use Rattle.std.specs.Prelude.{Result, Ok, Err}
use Rattle.prelude.specs.declared.refusals.Refused.{Refused}
use Rattle.prelude.specs.Limits.{text_max, column_max}
use Rattle.prelude.specs.Pick.{pick}
use Rattle.prelude.specs.Refusals.{too_long, no_room, refused_at}
use Rattle.prelude.proofs.Cases.{and_left, and_right}
use Rattle.prelude.proofs.Picks.{and_no_first, and_no_second}
use Rattle.prelude.proofs.Stores.{sets_append, sets_over}
use Rattle.tsv8.specs.declared.answers.Sheet.{Sheet}
use Rattle.tsv8.specs.declared.heads.Outline.{Outline}
use Rattle.tsv8_cells.specs.declared.columns.ColumnType.{ColumnType}
use Rattle.tsv8_cells.specs.declared.columns.ColumnType.TheVariants.{Str as strs}
use Rattle.tsv8_cells.specs.Types.{type_number, all_strs}
use Rattle.tsv8_cells.specs.Cells.{Cell, Cells, got, cells_of}
use Rattle.tsv8.specs.Lines.{read_lines}
use Rattle.tsv8.specs.Read.{SheetRead, read, unread, read_all}
use Rattle.tsv8.specs.Answers.{Rooms, rooms_of, has_room, fitted, read_text, sheet_of, flat, names_after, types_after, cells_after, store_after}
use Rattle.tsv8_cells.specs.inner.Runs.{Starts, line_end, cells_at, lines_from}
use Rattle.tsv8.specs.inner.Heads.{AllStrs, BehindGot, HeadGot, HeadTold}
use Rattle.tsv8.specs.inner.Stored.{cells_in, bytes_in, Fits}
use Rattle.tsv8.proofs.Filling.{flat_length, numbers_length}

-- room, part by part
module _ (n c m a b d e : ℕ) where
  abbrev rooms : Rooms
  rooms = record { names = a / 3; types = b; cells = d / 3; store = e }

  pub no_names : a / 3 < n → false ≡ has_room rooms n c m
  unfolding has_room
  no_names h = sym (and_no_first (leb n (a / 3)) _ (lt-leb n (a / 3) h))

  module _ (x : n ≤ a / 3) where
    pub no_types : b < n → false ≡ has_room rooms n c m
    unfolding has_room
    no_types h = sym (and_no_second (leb n (a / 3)) (leb n b && (leb c (d / 3) && leb m e)) (and_no_first (leb n b) (leb c (d / 3) && leb m e) (lt-leb n b h)))

    module _ (y : n ≤ b) where
      pub no_cells : d / 3 < c → false ≡ has_room rooms n c m
      unfolding has_room
      no_cells h =
          sym (and_no_second (leb n (a / 3)) (leb n b && (leb c (d / 3) && leb m e))
          (and_no_second (leb n b) (leb c (d / 3) && leb m e) (and_no_first (leb c (d / 3)) (leb m e) (lt-leb c (d / 3) h))))

      pub by_store : c ≤ d / 3 → leb m e ≡ has_room rooms n c m
      unfolding has_room
      by_store h = rw (le-leb n (a / 3) x, le-leb n b y, le-leb c (d / 3) h)

pub record Roomy (r : Rooms) (n c m : ℕ) : Type 0 where
  pub names : n ≤ r.names
  pub types : n ≤ r.types
  pub cells : c ≤ r.cells
  pub store : m ≤ r.store

roomy : (r : Rooms) (n c m : ℕ) → has_room r n c m ≡ true → Roomy r n c m
unfolding has_room
roomy r n c m e =
    let a = and_left (leb n r.names) _ e in
    let f = and_right (leb n r.names) _ e in
    let b = and_left (leb n r.types) _ f in
    let g = and_right (leb n r.types) _ f in
    record { names = leb-true _ _ a; types = leb-true _ _ b; cells = leb-true _ _ (and_left (leb c r.cells) _ g); store = leb-true _ _ (and_right (leb c r.cells) _ g) }

is_tight : (r : Rooms) (ns : List Cell) (ts : List ColumnType) (cs : List Cell) (bs : List ℕ) → has_room r (length ns) (length cs) (length bs) ≡ false → fitted r (read ns ts cs bs) ≡ unread no_room 0
unfolding pick
is_tight r ns ts cs bs e = rw e

is_roomy : (r : Rooms) (ns : List Cell) (ts : List ColumnType) (cs : List Cell) (bs : List ℕ) → has_room r (length ns) (length cs) (length bs) ≡ true → fitted r (read ns ts cs bs) ≡ read ns ts cs bs
unfolding pick
is_roomy r ns ts cs bs e = rw e

-- Str alone
strs_long : (n : ℕ) → length (all_strs n) ≡ n
unfolding all_strs
strs_long zero = refl
strs_long (suc n) = ap suc (strs_long n)

strs_front : (k n : ℕ) → n ≤ k → take n (all_strs k) ≡ all_strs n
unfolding all_strs
strs_front k zero h = refl
strs_front zero (suc n) h = absurd (omega arith)
strs_front (suc k) (suc n) h = ap (λ (l : List ColumnType). strs ∷ l) (strs_front k n (omega arith))

pub all_are_strs : AllStrs (all_strs 64)
all_are_strs n h = (omega (arith, strs_long 64), strs_front 64 n h)

module _ (text ns₀ ts₀ cs₀ st₀ : List ℕ) where
  abbrev W : SheetRead
  W = read_text (rooms_of ns₀ ts₀ cs₀ st₀) text

  -- what reading answers, and what the parts hold afterwards
  abbrev pub Answered : Result Sheet Refused → List ℕ → List ℕ → List ℕ → List ℕ → Type 0
  Answered r ns ts cs st =
      (r ≡ sheet_of (read_text (rooms_of ns₀ ts₀ cs₀ st₀) text)) × ((ns ≡ names_after (read_text (rooms_of ns₀ ts₀ cs₀ st₀) text) ns₀)
      × ((ts ≡ types_after (read_text (rooms_of ns₀ ts₀ cs₀ st₀) text) ts₀) × ((cs ≡ cells_after (read_text (rooms_of ns₀ ts₀ cs₀ st₀) text) cs₀)
      × (st ≡ store_after (read_text (rooms_of ns₀ ts₀ cs₀ st₀) text) st₀))))

  answered : (v : SheetRead) {r : Result Sheet Refused} {ns ts cs st : List ℕ} → W ≡ v → r ≡ sheet_of v → ns ≡ names_after v ns₀ → ts ≡ types_after v ts₀ → cs ≡ cells_after v cs₀ → st ≡ store_after v st₀
      → Answered r ns ts cs st
  answered v e a b c d f = rw e (a, (b, (c, (d, f))))

  pub too_long_lem : text_max < length text → (f : Refused) → f ≡ refused_at too_long 0 → Answered (Err f) ns₀ ts₀ cs₀ st₀
  unfolding read_text pick
  too_long_lem h f ef = answered (unread too_long 0) (rw (lt-ltb text_max (length text) h)) (ap Err ef) refl refl refl refl

  module _ (h : length text ≤ text_max) (new : List ColumnType) where
    read_is : W ≡ fitted (rooms_of ns₀ ts₀ cs₀ st₀) (read_all text)
    unfolding read_text pick
    read_is = rw (le-ltb text_max (length text) h)

    pub judged_refused : (f : Refused) → HeadTold text (read_all text) new (Err f) → Answered (Err f) ns₀ ts₀ cs₀ st₀
    judged_refused f x =
        let y : read_all text ≡ unread f.refusal f.place = x.so in
        answered (unread f.refusal f.place) (read_is ∙ ap (fitted (rooms_of ns₀ ts₀ cs₀ st₀)) y) refl refl refl refl refl

    module _ (o : Outline) (x : HeadTold text (read_all text) new (Ok o)) where
      g : HeadGot text (read_all text) new o
      g = x.so

      b : BehindGot text (read_all text) g.names g.before o.names o.columns (length g.before) new o
      b = g.behind

      abbrev ts : List ColumnType
      ts = take o.columns new

      pub few : o.columns ≤ column_max
      few = g.few

      pub long : o.columns ≤ length new
      long = b.long

      stored_is : o.stored ≡ length (g.before ++ b.bytes)
      stored_is = b.stored ∙ sym (length-append g.before b.bytes)

      room_is : has_room (rooms_of ns₀ ts₀ cs₀ st₀) (length g.names) (length b.cells) (length (g.before ++ b.bytes)) ≡ has_room (rooms_of ns₀ ts₀ cs₀ st₀) o.columns o.cells o.stored
      room_is = λ i. has_room (rooms_of ns₀ ts₀ cs₀ st₀) (g.count i) (sym b.count i) (sym stored_is i)

      module _ (f : Bool) (ef : f ≡ has_room (rooms_of ns₀ ts₀ cs₀ st₀) o.columns o.cells o.stored) where
        pub no_room_lem : f ≡ false → (u : Refused) → u ≡ refused_at no_room 0 → Answered (Err u) ns₀ ts₀ cs₀ st₀
        no_room_lem z u eu = answered (unread no_room 0) (read_is ∙ ap (fitted (rooms_of ns₀ ts₀ cs₀ st₀)) b.same ∙ tight (room_is ∙ sym ef ∙ z)) (ap Err eu) refl refl refl refl
          where
            tight : has_room (rooms_of ns₀ ts₀ cs₀ st₀) (length g.names) (length b.cells) (length (g.before ++ b.bytes)) ≡ false
                → fitted (rooms_of ns₀ ts₀ cs₀ st₀) (read g.names ts b.cells (g.before ++ b.bytes)) ≡ unread no_room 0
            tight = is_tight (rooms_of ns₀ ts₀ cs₀ st₀) g.names ts b.cells (g.before ++ b.bytes)

        module _ (z : f ≡ true) where
          room : Roomy (rooms_of ns₀ ts₀ cs₀ st₀) o.columns o.cells o.stored
          room = roomy (rooms_of ns₀ ts₀ cs₀ st₀) o.columns o.cells o.stored (sym ef ∙ z)

          whole : W ≡ read g.names ts b.cells (g.before ++ b.bytes)
          whole = read_is ∙ ap (fitted (rooms_of ns₀ ts₀ cs₀ st₀)) b.same ∙ is_roomy (rooms_of ns₀ ts₀ cs₀ st₀) g.names ts b.cells (g.before ++ b.bytes) (room_is ∙ sym ef ∙ z)

          pub types_fit : o.columns ≤ length ts₀
          types_fit = room.types

          -- the names
          module _ (first : List ColumnType) (a : AllStrs first) where
            names_are : cells_of (take o.columns first) 0 (cells_at text o.names) ≡ got g.names g.before
            names_are = ap (λ (l : List ColumnType). cells_of l 0 (cells_at text o.names)) (a o.columns few).1 ∙ g.first

            pub names_fit : Fits (cells_of (take o.columns first) 0 (cells_at text o.names)) 0 0 ns₀ st₀
            names_fit =
                record {
                  cells = g.names;
                  bytes = g.before;
                  same = names_are;
                  room = omega (arith, room.names, g.count);
                  long = omega (arith, room.store, b.stored);
                  short = omega (arith, b.short, b.stored, h);
                }

            pub names_due : (o.names ≤ length text) × (Starts text o.names × ((o.columns ≤ length first) × (length (cells_at text o.names) ≡ o.columns)))
            names_due = (g.inside, (g.starts, ((a o.columns few).0, g.due)))

            module _ (end m : ℕ) (ns st : List ℕ)
                (u : (end ≡ line_end text o.names) × ((m ≡ 0 + length (bytes_in (cells_of (take o.columns first) 0 (cells_at text o.names))))
                × ((ns ≡ sets ns₀ (3 * 0) (flat (cells_in (cells_of (take o.columns first) 0 (cells_at text o.names))))) × (st ≡ sets st₀ 0 (bytes_in (cells_of (take o.columns first) 0 (cells_at text o.names))))))) where
              m_is : m ≡ length g.before
              m_is = u.1.0 ∙ zero-add _ ∙ ap (λ (y : Cells). length (bytes_in y)) names_are

              st_is : st ≡ sets st₀ 0 g.before
              st_is = u.1.1.1 ∙ ap (λ (y : Cells). sets st₀ 0 (bytes_in y)) names_are

              lines_are : read_lines false ts m (lines_from text o.rest) ≡ got b.cells b.bytes
              lines_are = ap (λ (k : ℕ). read_lines false ts k (lines_from text o.rest)) m_is ∙ b.lines

              pub rest_in : o.rest ≤ length text + 1
              rest_in = b.inside

              pub lines_fit : Fits (read_lines false ts m (lines_from text o.rest)) 0 m cs₀ st
              lines_fit =
                  record {
                    cells = b.cells;
                    bytes = b.bytes;
                    same = lines_are;
                    room = omega (arith, room.cells, b.count);
                    long = omega (arith, room.store, b.stored, m_is, ap length st_is, length-sets st₀ 0 g.before);
                    short = omega (arith, b.short, b.stored, h, m_is);
                  }

              pub all_done : (ts' cs' st' : List ℕ) → ts' ≡ sets ts₀ 0 (map type_number ts)
                  → (cs' ≡ sets cs₀ 0 (flat (cells_in (read_lines false ts m (lines_from text o.rest))))) × (st' ≡ sets st m (bytes_in (read_lines false ts m (lines_from text o.rest))))
                  → Answered (Ok (record { columns = o.columns; cells = o.cells; stored = o.stored })) ns ts' cs' st'
              all_done ts' cs' st' et (ec, es) =
                  answered (read g.names ts b.cells (g.before ++ b.bytes)) whole
                  (λ i. Ok (record { columns = sym g.count i; cells = b.count i; stored = stored_is i }))
                  (u.1.1.0 ∙ ap (λ (y : Cells). sets ns₀ 0 (flat (cells_in y))) names_are ∙ sets_over (flat g.names) ns₀ (omega (arith, flat_length g.names, room.names, g.count)))
                  (et ∙ sets_over (map type_number ts) ts₀ (omega (arith, numbers_length new o.columns long, room.types)))
                  (ec ∙ ap (λ (y : Cells). sets cs₀ 0 (flat (cells_in y))) lines_are ∙ sets_over (flat b.cells) cs₀ (omega (arith, flat_length b.cells, room.cells, b.count)))
                  (es ∙ (λ i. sets (st_is i) (m_is i) (bytes_in (lines_are i))) ∙ sets_append g.before b.bytes st₀ 0 (length g.before) (zero-add _)
                  ∙ sets_over (g.before ++ b.bytes) st₀ (omega (arith, stored_is, room.store)))
