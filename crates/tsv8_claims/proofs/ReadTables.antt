-- What is read of a text, from the cells of a line to the whole: rows are put behind rows, and the bytes that they take are added up.
-- Assumes nothing.
use Prim.Native.Nat.{ℕ, zero, suc, ◌+◌, ◌*◌, ◌≤◌, ◌<◌}
use mathlib.Core.Bool.{Bool, true, false}
use mathlib.Core.List.{List, [], ◌∷◌, ◌++◌, append-nil}
use mathlib.Core.Logic.{◌⊎◌, inl, inr}
use mathlib.Core.Path.{◌≡◌, refl, sym, ap, subst, ◌∙◌}
use native.Mathlib.Omega.{arith}
use lib.Dec.{leb, eqb}
use lib.ListN.{length, get_or, length-append}
use lib.Seq.{drop-append_seam}
use borrow.Author.Tests.{leb-true, eqb-true}
use Rattle.prelude.specs.Bytes.{TAB, LF}
use Rattle.prelude.specs.Limits.{column_max}
use Rattle.prelude.specs.Pick.{pick}
use Rattle.prelude.specs.Refusals.{bad_header, bad_line}
use Rattle.prelude.proofs.Cases.{and_left, and_right}
use Rattle.prelude.proofs.Picks.{pick_case}
use Rattle.lines.specs.Line.{strip}
use Rattle.tokens.specs.Words.{same_bytes}
use Rattle.tsv8_cells.specs.Parts.{Part, Line, lines_of}
use Rattle.tsv8_cells.specs.declared.columns.ColumnType.{ColumnType}
use Rattle.tsv8_cells.specs.declared.columns.ColumnType.TheVariants.{Str as strs}
use Rattle.tsv8_cells.specs.Types.{Named, named, unnamed, type_named, Types, types, untyped, and_type, types_in, all_strs}
use Rattle.tsv8_cells.specs.Cells.{Cell, cell, Cells, got, refused, more, chain, cell_at, cells_of}
use Rattle.tsv8.specs.Lines.{LineSort, row, typing, other, stray, sort_of, line_by, read_line, is_row, read_lines, type_mark}
use Rattle.tsv8.specs.Read.{SheetRead, read, unread, joined, behind_types, has_types, behind_names, by_names, first_mark, is_first, read_sheet, read_all}
use Rattle.tsv8_cells.proofs.Numerals.{same_is}
use Rattle.tsv8_claims.specs.Claims.{Each, InRange, KindFits, TextFits, Table, OneForOne, name_parts, data_of, data_parts, Shows, Behind}
use Rattle.tsv8_claims.proofs.Tables.{each_append, for_append, no_rows, one-row, both}
use Rattle.prelude.proofs.Standing.{Stands, stands_left, stands_right}
use Rattle.tsv8_claims.proofs.Standing.{spans, extent, PartsStand, LinesStand, TextStands, text_stands}
use Rattle.tsv8_claims.proofs.ReadCells.{Told, OneRead, CellRead, cell_read}

-- the first line and a `!type` line are no data
first_mark_lem : is_row (sort_of first_mark) ≡ false
unfolding sort_of same_bytes pick
first_mark_lem = refl

type_mark_lem : is_row (sort_of type_mark) ≡ false
unfolding sort_of same_bytes pick
type_mark_lem = refl

typing_row : (first : List ℕ) → same_bytes first type_mark ≡ true → is_row (sort_of first) ≡ false
typing_row first e = ap (λ (w : List ℕ). is_row (sort_of w)) (same_is first type_mark e) ∙ type_mark_lem

-- as many types as columns
strs_length : (n : ℕ) → length (all_strs n) ≡ n
unfolding all_strs
strs_length zero = refl
strs_length (suc n) = ap suc (strs_length n)

abbrev TypedAs : List ℕ → ℕ → Types → Type 0
TypedAs s n (types ts) = length ts ≡ n
TypedAs s n (untyped p) = Told s bad_header p

and_typed : (s : List ℕ) (n : ℕ) (x : Named) (p : ℕ) (r : Types) → Told s bad_header p → TypedAs s n r → TypedAs s (suc n) (and_type x p r)
and_typed s n (named t) p (types ts) h e = ap suc e
and_typed s n (named t) p (untyped q) h e = e
and_typed s n unnamed p (types ts) h e = h
and_typed s n unnamed p (untyped q) h e = h

module _ (text : List ℕ) where
  -- a cell in a column of a type
  abbrev pub Fits : ColumnType → Cell → Type 0
  Fits t c = KindFits t c.kind × TextFits text t c

  types_typed : (cs : List Part) → PartsStand text TAB cs → TypedAs text (length cs) (types_in cs)
  unfolding types_in
  types_typed [] a = refl
  types_typed (c ∷ cs) a =
      and_typed text (length cs) (type_named (strip c.bytes)) c.place (types_in cs) (inr (inl (refl, inr (inr a.0.1))), a.0.0.inside) (types_typed cs a.1)

  -- one cell for each type
  abbrev RowFits : List ColumnType → List Cell → Type 0
  RowFits [] [] = Unit
  RowFits [] (c ∷ cs) = ⊥
  RowFits (t ∷ ts) [] = ⊥
  RowFits (t ∷ ts) (c ∷ cs) = Fits t c × RowFits ts cs

  row_at : (ts : List ColumnType) (cs : List Cell) (column : ℕ) → RowFits ts cs → column < length ts → Fits (get_or ts column strs) (get_or cs column (cell 0 0 0))
  row_at [] [] column f h = absurd (omega arith)
  row_at [] (c ∷ cs) column f h = absurd f
  row_at (t ∷ ts) [] column f h = absurd f
  row_at (t ∷ ts) (c ∷ cs) zero f h = f.0
  row_at (t ∷ ts) (c ∷ cs) (suc column) f h = row_at ts cs column f.1 (omega arith)

  row_strs : (n : ℕ) (cs : List Cell) → RowFits (all_strs n) cs → Each (λ c. KindFits strs c.kind) cs
  unfolding all_strs
  row_strs zero [] f = tt
  row_strs zero (c ∷ cs) f = absurd f
  row_strs (suc n) [] f = absurd f
  row_strs (suc n) (c ∷ cs) f = (f.0.0, row_strs n cs f.1)

  -- the cells of a line behind m bytes of the store, from parts of k bytes
  record RowGot (ts : List ColumnType) (ps : List Part) (m k : ℕ) (cs : List Cell) (bs : List ℕ) : Type 0 where
    pub size : length cs ≡ length ts
    pub fits : RowFits ts cs
    pub shows : (store : List ℕ) → Stands store m bs → OneForOne (Shows text store) ps cs
    pub ranges : (e : ℕ) → m + length bs ≤ e → Each (InRange (length text) e) cs
    pub bytes : length bs ≤ k
    pub cost : 2 * length cs ≤ k

  abbrev RowRead : List ColumnType → List Part → ℕ → ℕ → Cells → Type 0
  RowRead ts ps m k (got cs bs) = RowGot ts ps m k cs bs
  RowRead ts ps m k (refused refusal at) = Told text refusal at

  more_row : (t : ColumnType) (ts : List ColumnType) (p : Part) (ps : List Part) (m k l : ℕ) (cs : List Cell) (bs : List ℕ) (r : Cells) → OneRead text t (strip p.bytes) m k cs bs
      → RowRead ts ps (m + length bs) l r → RowRead (t ∷ ts) (p ∷ ps) m (k + l) (more cs bs r)
  more_row t ts p ps m k l cs bs (refused refusal at) x y = y
  more_row t ts p ps m k l cs bs (got ds es) x y =
      rw x.one
      (record {
        size = ap suc y.size;
        fits = ((x.kind, x.bare), y.fits);
        shows = λ store z. (x.shows store (stands_left bs es z), y.shows store (stands_right bs es z));
        ranges =
            λ e h. (x.range e (omega (arith, length-append bs es)), y.ranges e (omega (arith, length-append bs es)));
        bytes = omega (arith, x.bytes, y.bytes, length-append bs es);
        cost = omega (arith, x.some, y.cost);
      })

  chain_row : (t : ColumnType) (ts : List ColumnType) (p : Part) (ps : List Part) (m k l : ℕ) (r : Cells) (go : ℕ → Cells)
      → CellRead text t (strip p.bytes) m k r → ((j : ℕ) → RowRead ts ps j l (go j)) → RowRead (t ∷ ts) (p ∷ ps) m (k + l) (chain m r go)
  chain_row t ts p ps m k l (got cs bs) go x f = more_row t ts p ps m k l cs bs (go (m + length bs)) x (f (m + length bs))
  chain_row t ts p ps m k l (refused refusal at) go x f = x

  row_read_lem : (ts : List ColumnType) (m : ℕ) (ps : List Part) → PartsStand text TAB ps → length ps ≡ length ts → RowRead ts ps m (spans ps) (cells_of ts m ps)
  unfolding cells_of
  row_read_lem [] m (p ∷ ps) a e = absurd (omega arith)
  row_read_lem [] m [] a e = record { size = refl; fits = tt; shows = λ store z. tt; ranges = λ j h. tt; bytes = omega arith; cost = omega arith }
  row_read_lem (t ∷ ts) m [] a e = absurd (omega arith)
  row_read_lem (t ∷ ts) m (c ∷ ps) a e =
      let f : length ps ≡ length ts = omega arith in
      chain_row t ts c ps m (suc (length c.bytes)) (spans ps) (cell_at t m c) (λ j. cells_of ts j ps) (cell_read text t m c a.0.0 a.0.1) (λ j. row_read_lem ts j ps a.1 f)

  -- the cells of lines of k bytes
  record RowsGot (ts : List ColumnType) (ps : List Part) (m k : ℕ) (cs : List Cell) (bs : List ℕ) : Type 0 where
    pub table : Table Fits ts cs
    pub shows : (store : List ℕ) → Stands store m bs → OneForOne (Shows text store) ps cs
    pub ranges : (e : ℕ) → m + length bs ≤ e → Each (InRange (length text) e) cs
    pub bytes : length bs ≤ k
    pub cost : table.rows + 2 * length cs ≤ k

  abbrev RowsRead : List ColumnType → List Part → ℕ → ℕ → Cells → Type 0
  RowsRead ts ps m k (got cs bs) = RowsGot ts ps m k cs bs
  RowsRead ts ps m k (refused refusal at) = Told text refusal at

  stray_told : (p : ℕ) → (p ≤ length text) × Behind text LF p → Told text bad_line p
  stray_told p i = (inr (inr (inl (refl, i.1))), i.0)

  module _ (ts : List ColumnType) where
    none_read : (m k : ℕ) → RowsRead ts [] m k (got [] [])
    none_read m k = record { table = no_rows Fits ts; shows = λ store z. tt; ranges = λ e h. tt; bytes = omega arith; cost = omega arith }

    row_alone : (ps : List Part) (m k : ℕ) (r : Cells) → RowRead ts ps m k r → RowsRead ts ps m (suc k) r
    row_alone ps m k (refused refusal at) x = x
    row_alone ps m k (got cs bs) x =
        record {
          table = one-row Fits ts cs x.size (λ column. row_at ts cs column x.fits);
          shows = x.shows;
          ranges = x.ranges;
          bytes = omega (arith, x.bytes);
          cost = omega (arith, x.cost);
        }

    line_by_lem : (o : LineSort) (behind : Bool) (m k : ℕ) (l : Line) → spans l.cells < k → (l.place ≤ length text) × Behind text LF l.place → PartsStand text TAB l.cells
        → length l.cells ≡ length ts → RowsRead ts (data_of (is_row o) l.cells) m k (line_by o behind ts m l)
    line_by_lem row behind m k l h i a e = wider (cells_of ts m l.cells) (row_alone l.cells m (spans l.cells) (cells_of ts m l.cells) (row_read_lem ts m l.cells a e))
      where
        wider : (r : Cells) → RowsRead ts l.cells m (suc (spans l.cells)) r → RowsRead ts l.cells m k r
        wider (refused refusal at) x = x
        wider (got cs bs) x = record { table = x.table; shows = x.shows; ranges = x.ranges; bytes = omega (arith, x.bytes); cost = omega (arith, x.cost) }
    line_by_lem typing true m k l h i a e = stray_told l.place i
    line_by_lem typing false m k l h i a e = (inr (inl (refl, inr (inl i.1))), i.0)
    line_by_lem other true m k l h i a e = stray_told l.place i
    line_by_lem other false m k l h i a e = none_read m k
    line_by_lem stray behind m k l h i a e = stray_told l.place i

    line_read : (behind : Bool) (m k : ℕ) (l : Line) → spans l.cells < k → (l.place ≤ length text) × Behind text LF l.place → PartsStand text TAB l.cells
        → RowsRead ts (data_of (is_row (sort_of l.first)) l.cells) m k (read_line behind ts m l)
    unfolding read_line
    line_read behind m k l h i a =
        pick_case (RowsRead ts (data_of (is_row (sort_of l.first)) l.cells) m k) (eqb (length l.cells) (length ts)) (line_by (sort_of l.first) behind ts m l) (refused bad_line l.place)
        (λ e. line_by_lem (sort_of l.first) behind m k l h i a (eqb-true _ _ e)) (λ e. stray_told l.place i)

    more_rows : (ps qs : List Part) (m k l : ℕ) (cs : List Cell) (bs : List ℕ) (r : Cells) → RowsGot ts ps m k cs bs
        → RowsRead ts qs (m + length bs) l r → RowsRead ts (ps ++ qs) m (k + l) (more cs bs r)
    more_rows ps qs m k l cs bs (refused refusal at) x y = y
    more_rows ps qs m k l cs bs (got ds es) x y =
        record {
          table = both Fits ts cs ds x.table y.table;
          shows =
              λ store z. for_append (Shows text store) ps qs cs ds (x.shows store (stands_left bs es z)) (y.shows store (stands_right bs es z));
          ranges =
              λ e h. each_append (InRange (length text) e) cs ds (x.ranges e (omega (arith, length-append bs es)))
              (y.ranges e (omega (arith, length-append bs es)));
          bytes = omega (arith, x.bytes, y.bytes, length-append bs es);
          cost = omega (arith, x.cost, y.cost, length-append cs ds);
        }

    chain_rows : (ps qs : List Part) (m k l : ℕ) (r : Cells) (go : ℕ → Cells) → RowsRead ts ps m k r → ((j : ℕ) → RowsRead ts qs j l (go j))
        → RowsRead ts (ps ++ qs) m (k + l) (chain m r go)
    chain_rows ps qs m k l (got cs bs) go x f = more_rows ps qs m k l cs bs (go (m + length bs)) x (f (m + length bs))
    chain_rows ps qs m k l (refused refusal at) go x f = x

    lines_read : (behind : Bool) (m : ℕ) (ls : List Line) → LinesStand text ls → RowsRead ts (data_parts ls) m (extent ls) (read_lines behind ts m ls)
    unfolding read_lines
    lines_read behind m [] a = none_read m 0
    lines_read behind m (l ∷ ls) a =
        chain_rows (data_of (is_row (sort_of l.first)) l.cells) (data_parts ls) m (suc (length l.first + spans l.cells)) (extent ls) (read_line behind ts m l) (λ j. read_lines (is_row (sort_of l.first)) ts j ls)
        (line_read behind m (suc (length l.first + spans l.cells)) l (omega arith) a.0 a.1)
        (λ j. lines_read (is_row (sort_of l.first)) j ls a.2)

  -- the whole: names from the parts os and cells from the parts ps, of lines of k bytes
  pub record SheetGot (os ps : List Part) (k : ℕ) (ns : List Cell) (ts : List ColumnType) (cs : List Cell) (bs : List ℕ) : Type 0 where
    pub some : 1 ≤ length ns
    pub most : length ns ≤ column_max
    pub typed : length ts ≡ length ns
    pub names : Each (λ c. KindFits strs c.kind) ns
    pub table : Table Fits ts cs
    pub name_shows : OneForOne (Shows text bs) os ns
    pub cell_shows : OneForOne (Shows text bs) ps cs
    pub name_ranges : Each (InRange (length text) (length bs)) ns
    pub cell_ranges : Each (InRange (length text) (length bs)) cs
    pub bytes : 6 + length bs ≤ k
    pub cost : 6 + 2 * length ns + (table.rows + 2 * length cs) ≤ k

  abbrev pub SheetIs : List Part → List Part → ℕ → SheetRead → Type 0
  SheetIs os ps k (read ns ts cs bs) = SheetGot os ps k ns ts cs bs
  SheetIs os ps k (unread refusal at) = Told text refusal at

  -- behind n names, from parts of k bytes
  module _ (n k : ℕ) (h : 1 ≤ n) (g : n ≤ column_max) (os : List Part) (ns : List Cell) (bs : List ℕ) (x : RowGot (all_strs n) os 0 k ns bs) where
    names_long : length ns ≡ n
    names_long = x.size ∙ strs_length n

    joined_is : (ts : List ColumnType) (ps : List Part) (l : ℕ) (r : Cells) → length ts ≡ n → RowsRead ts ps (length bs) l r → SheetIs os ps (6 + k + l) (joined ns ts bs r)
    joined_is ts ps l (refused refusal at) e y = y
    joined_is ts ps l (got cs es) e y =
        record {
          some = omega (arith, names_long);
          most = omega (arith, names_long);
          typed = e ∙ sym names_long;
          names = row_strs n ns x.fits;
          table = y.table;
          name_shows = x.shows (bs ++ es) (record { rest = es; inside = omega arith; same = refl });
          cell_shows =
              y.shows (bs ++ es) (record { rest = []; inside = omega (arith, length-append bs es); same = drop-append_seam bs es ∙ sym (append-nil es) });
          name_ranges = x.ranges (length (bs ++ es)) (omega (arith, length-append bs es));
          cell_ranges = y.ranges (length (bs ++ es)) (omega (arith, length-append bs es));
          bytes = omega (arith, x.bytes, y.bytes, length-append bs es);
          cost = omega (arith, x.cost, y.cost);
        }

    typed_is : (ls : List Line) (l : ℕ) → extent ls ≤ l → LinesStand text ls → (r : Types) → TypedAs text n r
        → SheetIs os (data_parts ls) (6 + k + l) (behind_types ns bs ls r)
    typed_is ls l i a (untyped p) e = e
    typed_is ls l i a (types ts) e =
        joined_is ts (data_parts ls) l (read_lines false ts (length bs) ls) e
        (wider (read_lines false ts (length bs) ls) (lines_read ts false (length bs) ls a))
      where
        wider : (r : Cells) → RowsRead ts (data_parts ls) (length bs) (extent ls) r → RowsRead ts (data_parts ls) (length bs) l r
        wider (refused refusal at) y = y
        wider (got cs es) y = record { table = y.table; shows = y.shows; ranges = y.ranges; bytes = omega (arith, y.bytes); cost = omega (arith, y.cost) }

    untyped_is : (ls : List Line) → LinesStand text ls → SheetIs os (data_parts ls) (6 + k + extent ls) (behind_types ns bs ls (types (all_strs (length ns))))
    untyped_is ls a = typed_is ls (extent ls) (omega arith) a (types (all_strs (length ns))) (strs_length (length ns) ∙ names_long)

    behind_is : (ls : List Line) → LinesStand text ls → SheetIs os (data_parts ls) (6 + k + extent ls) (behind_names ns bs ls)
    unfolding behind_names has_types
    behind_is [] a = untyped_is [] a
    behind_is (l ∷ ls) a =
        pick_case (SheetIs os (data_parts (l ∷ ls)) (6 + k + extent (l ∷ ls))) (has_types (length ns) l) _ _
        (λ e. let f : length l.cells ≡ n = eqb-true (length l.cells) (length ns) (and_right (same_bytes l.first type_mark) _ e) ∙ names_long in
        rw (typing_row l.first (and_left (same_bytes l.first type_mark) _ e))
        (typed_is ls (extent (l ∷ ls)) (omega arith) a.2 (types_in l.cells) (rw f at (types_typed l.cells a.1))))
        (λ e. untyped_is (l ∷ ls) a)

  names_is : (n k : ℕ) → 1 ≤ n → n ≤ column_max → (os : List Part) (r : Cells) → RowRead (all_strs n) os 0 k r → (ls : List Line) → LinesStand text ls
      → SheetIs os (data_parts ls) (6 + k + extent ls) (by_names r ls)
  names_is n k h g os (got ns bs) x ls a = behind_is n k h g os ns bs x ls a
  names_is n k h g os (refused refusal at) x ls a = x

  first_told : (p : ℕ) → (p ≤ length text) × ((p ≡ 0) ⊎ Behind text LF p) → Told text bad_header p
  first_told p (i, inl z) = (inr (inl (refl, inl z)), i)
  first_told p (i, inr z) = (inr (inl (refl, inr (inl z))), i)

  sheet_is : (ls : List Line) → TextStands text ls → SheetIs (name_parts ls) (data_parts ls) (extent ls) (read_sheet ls)
  unfolding read_sheet is_first
  sheet_is [] a = (inr (inl (refl, inl refl)), omega arith)
  sheet_is (l ∷ ls) a =
      pick_case (SheetIs l.cells (data_parts (l ∷ ls)) (extent (l ∷ ls))) (is_first l) _ _
      (λ e. let b = and_right (same_bytes l.first first_mark) _ e in
      let m : l.first ≡ first_mark = same_is l.first first_mark (and_left (same_bytes l.first first_mark) _ e) in
      let f : length l.first ≡ 5 = ap length m in
      let d : is_row (sort_of l.first) ≡ false = ap (λ (w : List ℕ). is_row (sort_of w)) m ∙ first_mark_lem in
      let z : 6 + spans l.cells + extent ls ≡ extent (l ∷ ls) = omega (arith, f) in
      rw d
      (subst (λ (k : ℕ). SheetIs l.cells (data_parts ls) k (by_names (cells_of (all_strs (length l.cells)) 0 l.cells) ls)) z
      (names_is (length l.cells) (spans l.cells) (leb-true 1 (length l.cells) (and_left (leb 1 (length l.cells)) _ b))
      (leb-true (length l.cells) column_max (and_right (leb 1 (length l.cells)) _ b)) l.cells (cells_of (all_strs (length l.cells)) 0 l.cells)
      (row_read_lem (all_strs (length l.cells)) 0 l.cells a.1 (sym (strs_length (length l.cells)))) ls a.2)))
      (λ e. first_told l.place a.0)

  pub text_is : SheetIs (name_parts (lines_of text)) (data_parts (lines_of text)) (extent (lines_of text)) (read_all text)
  unfolding read_all
  text_is = sheet_is (lines_of text) (text_stands text)
