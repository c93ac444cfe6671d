-- A whole text judged: its first line, its names, and what stands behind them.
-- Assumes nothing.
use Prim.Native.Nat.{ℕ, zero, suc, ◌+◌, ◌-◌, ◌≤◌, ◌<◌}
use mathlib.Core.Bool.{Bool, true, false, ◌&&◌}
use mathlib.Core.List.{List, [], ◌∷◌}
use mathlib.Core.Path.{◌≡◌, refl, sym, ap, ap₂, subst, ◌∙◌}
use native.Mathlib.Omega.{arith}
use borrow.Author.Tests.{eq-eqb, ne_eqb, eqb-true, eqb-false, ltb-true, ltb-false, lt-ltb, le-ltb, le-leb, lt-leb}
use lib.Dec.{eqb, ltb, leb}
use lib.ListN.{length, take, drop, length-drop}
use lib.Seq.{drop-drop}
use Rattle.std.specs.Prelude.{Some, None, Result, Ok, Err}
use Rattle.prelude.specs.declared.refusals.Refused.{Refused}
use Rattle.prelude.specs.Limits.{column_max}
use Rattle.prelude.specs.Pick.{pick}
use Rattle.prelude.specs.Refusals.{bad_header, refused_at}
use Rattle.prelude.proofs.Cases.{split, never}
use Rattle.prelude.proofs.Picks.{and_no_first, and_no_second, and_yes}
use Rattle.line_ends.specs.inner.Ends.{line_run}
use Rattle.line_ends.proofs.Ends.{run_within}
use Rattle.tokens.specs.Words.{same_bytes}
use Rattle.tsv8.specs.declared.rows.Row.{Row}
use Rattle.tsv8.specs.declared.rows.Counted.{Counted}
use Rattle.tsv8.specs.declared.heads.Outline.{Outline}
use Rattle.tsv8_cells.specs.Parts.{Part, part, Line, line_of, lines_of}
use Rattle.tsv8_cells.specs.declared.columns.ColumnType.{ColumnType}
use Rattle.tsv8_cells.specs.Types.{all_strs}
use Rattle.tsv8_cells.specs.Cells.{Cell, cell, Cells, refused, cells_of}
use Rattle.tsv8.specs.Lines.{read_lines}
use Rattle.tsv8.specs.Read.{SheetRead, unread, joined, behind_names, by_names, first_mark, is_first, read_sheet, read_all}
use Rattle.tsv8_cells.specs.inner.Runs.{cell_run, Starts, line_at, line_end, cells_at, lines_from, Left}
use Rattle.tsv8.specs.inner.Rows.{row_read, RowGot, RowTold, LinesGot, LinesTold}
use Rattle.tsv8.specs.inner.Heads.{Typed, TypedTold, columns_of, AllStrs, BehindGot, BehindTold, HeadTold}
use Rattle.tsv8_cells.proofs.Places.{cell_line, line_on, cells_on, cell_ended, first_at, lines_line, lines_none}
use Rattle.tsv8.proofs.RowTexts.{types_long}
use Rattle.tsv8.proofs.TypeTexts.{cells_of_lem}

-- how many columns, by the tests of the code
module _ (s : List ℕ) (at q : ℕ) (d : Bool) (ed : d ≡ same_bytes (take (q - at) (drop at s)) first_mark) where
  pub columns_unmarked : d ≡ false → None ≡ columns_of s at q
  unfolding columns_of pick
  columns_unmarked f = rw (sym ed, f)

  module _ (t : d ≡ true) (n : ℕ) (en : n ≡ length (cells_at s q)) where
    pub columns_none : n ≡ 0 → None ≡ columns_of s at q
    unfolding columns_of pick
    columns_none z = rw (sym ed, t, sym en, eq-eqb n 0 z)

    module _ (ne : n ≡ 0 → ⊥) where
      pub columns_many : column_max < n → None ≡ columns_of s at q
      unfolding columns_of pick
      columns_many h = rw (sym ed, t, sym en, ne_eqb n 0 ne, lt-ltb column_max n h)

      pub columns_are : n ≤ column_max → Some n ≡ columns_of s at q
      unfolding columns_of pick
      columns_are h = rw (sym ed, t, sym en, ne_eqb n 0 ne, le-ltb column_max n h)

-- what the number says of the first line
columns_by : (s : List ℕ) (at q : ℕ)
    → columns_of s at q ≡ pick (same_bytes (take (q - at) (drop at s)) first_mark) (pick (eqb (length (cells_at s q)) 0) None (pick (ltb column_max (length (cells_at s q))) None (Some (length (cells_at s q))))) None
unfolding columns_of
columns_by s at q = refl

test_none : (a : Bool) (c : ℕ) → None ≡ pick a (pick (eqb c 0) None (pick (ltb column_max c) None (Some c))) None → a && (leb 1 c && leb c column_max) ≡ false
unfolding pick
test_none false c e = refl
test_none true c e =
    split (eqb c 0)
    (λ z. and_no_first (leb 1 c) (leb c column_max) (lt-leb 1 c (omega (arith, eqb-true c 0 z))))
    (λ z. split (ltb column_max c) (λ b. and_no_second (leb 1 c) (leb c column_max) (lt-leb c column_max (ltb-true column_max c b)))
    (λ b. never (let y : None ≡ Some c = rw (z, b) at e in cc)))

test_some : (a : Bool) (c k : ℕ) → Some k ≡ pick a (pick (eqb c 0) None (pick (ltb column_max c) None (Some c))) None
    → (a && (leb 1 c && leb c column_max) ≡ true) × ((c ≡ k) × ((0 < k) × (k ≤ column_max)))
unfolding pick
test_some false c k e = never (let z : Some k ≡ None = e in cc)
test_some true c k e =
    split (eqb c 0)
    (λ z. never (let y : Some k ≡ None = rw z at e in cc))
    (λ z. split (ltb column_max c) (λ b. never (let y : Some k ≡ None = rw (z, b) at e in cc))
    (λ b. let y : Some k ≡ Some c = rw (z, b) at e in
    let x : k ≡ c = cc in
    let p : 1 ≤ c = positive c (eqb-false c 0 z) in
    let l : c ≤ column_max = ltb-false column_max c b in
    (and_yes (leb 1 c) (leb c column_max) (le-leb 1 c p) (le-leb c column_max l), (sym x, (omega (arith, p, x), omega (arith, l, x))))))
  where
    positive : (c : ℕ) → (c ≡ 0 → ⊥) → 1 ≤ c
    positive zero n = absurd (n refl)
    positive (suc c) n = omega arith

-- some names
blank_cells : ℕ → List Cell
blank_cells zero = []
blank_cells (suc n) = cell 0 0 0 ∷ blank_cells n

blank_length : (n : ℕ) → length (blank_cells n) ≡ n
unfolding blank_cells
blank_length zero = refl
blank_length (suc n) = ap suc (blank_length n)

-- behind the names
module _ (s : List ℕ) (from at n m : ℕ) (w : Left s from at) (new : List ColumnType) where
  pub types_stop : (q : ℕ) (f : Refused) → ((ns : List Cell) (bs : List ℕ) → length ns ≡ n → TypedTold s at ns bs n new (Err f))
      → (ns : List Cell) (bs : List ℕ) → length ns ≡ n → length bs ≡ m → BehindTold s (behind_names ns bs (lines_from s from)) ns bs q n m new (Err f)
  types_stop q f v ns bs c d =
      let u : behind_names ns bs (lines_from s at) ≡ unread f.refusal f.place = (v ns bs c).so in
      record { so = ap (behind_names ns bs) w.same ∙ u }

  module _ (rest : ℕ) (v : (ns : List Cell) (bs : List ℕ) → length ns ≡ n → TypedTold s at ns bs n new (Ok rest)) where
    typed : (ns : List Cell) (bs : List ℕ) → length ns ≡ n → Typed s at ns bs n new rest
    typed ns bs c = (v ns bs c).so

    pub rest_in : (at ≤ rest) × ((rest ≤ length s + 1) × (n ≤ length new))
    rest_in = let u = typed (blank_cells n) [] (blank_length n) in (u.onward, (u.inside, u.long))

    pub lines_stop : (q : ℕ) (f : Refused) → LinesTold (length s) (read_lines false (take n new) m (lines_from s rest)) m (Err f)
        → (ns : List Cell) (bs : List ℕ) → length ns ≡ n → length bs ≡ m → BehindTold s (behind_names ns bs (lines_from s from)) ns bs q n m new (Err f)
    lines_stop q f x ns bs c d =
        let u = typed ns bs c in
        let y : read_lines false (take n new) m (lines_from s rest) ≡ refused f.refusal f.place = x.so in
        record {
          so =
              ap (behind_names ns bs) w.same ∙ u.same ∙ ap (λ (i : ℕ). joined ns (take n new) bs (read_lines false (take n new) i (lines_from s rest))) d
              ∙ ap (joined ns (take n new) bs) y;
        }

    pub lines_all : (q : ℕ) (p : Counted) → LinesTold (length s) (read_lines false (take n new) m (lines_from s rest)) m (Ok p) → m ≤ from
        → (ns : List Cell) (bs : List ℕ) → length ns ≡ n → length bs ≡ m
        → BehindTold s (behind_names ns bs (lines_from s from)) ns bs q n m new (Ok (record { names = q; columns = n; rest = rest; cells = p.cells; stored = p.stored }))
    lines_all q p x h ns bs c d =
        let u = typed ns bs c in
        let y : LinesGot (length s) (read_lines false (take n new) m (lines_from s rest)) m p.cells p.stored = x.so in
        record {
          so = record {
            cells = y.cells;
            bytes = y.bytes;
            same =
                ap (behind_names ns bs) w.same ∙ u.same ∙ ap (λ (i : ℕ). joined ns (take n new) bs (read_lines false (take n new) i (lines_from s rest))) d
                ∙ ap (joined ns (take n new) bs) y.same;
            lines = y.same;
            names = refl;
            columns = refl;
            count = sym y.count;
            stored = y.stored;
            short = y.short;
            small = omega (arith, h, w.onward, u.onward);
            inside = u.inside;
            long = u.long;
          };
        }

-- the first line
all_from : (s : List ℕ) → read_all s ≡ read_sheet (lines_from s 0)
unfolding read_all lines_of lines_from
all_from s = refl

no_lines : read_sheet [] ≡ unread bad_header 0
unfolding read_sheet
no_lines = refl

first_wrong : (l : Line) (ls : List Line) → is_first l ≡ false → read_sheet (l ∷ ls) ≡ unread bad_header l.place
unfolding read_sheet pick
first_wrong l ls e = rw e

first_right : (l : Line) (ls : List Line) → is_first l ≡ true → read_sheet (l ∷ ls) ≡ by_names (cells_of (all_strs (length l.cells)) 0 l.cells) ls
unfolding read_sheet pick
first_right l ls e = rw e

is_first_lem : (l : Line) → is_first l ≡ same_bytes l.first first_mark && (leb 1 (length l.cells) && leb (length l.cells) column_max)
unfolding is_first
is_first_lem l = refl

module _ (s : List ℕ) (at : ℕ) (w : Left s 0 at) where
  pub no_first_line : length s ≤ at → (new : List ColumnType) (f : Refused) → f ≡ refused_at bad_header 0 → HeadTold s (read_all s) new (Err f)
  no_first_line h new f ef = rw ef record { so = all_from s ∙ ap read_sheet (w.same ∙ lines_none s at h) ∙ no_lines }

  module _ (h : at < length s) (q : ℕ) (eq : q ≡ at + cell_run (drop at s)) where
    abbrev ln : Line
    ln = line_of (part at (line_at s at))

    abbrev rest : List Line
    rest = lines_from s (suc (line_end s at))

    lines_are : lines_from s 0 ≡ ln ∷ rest
    lines_are = w.same ∙ lines_line s at (w.stays h)

    cells_is : ln.cells ≡ cells_at s q
    cells_is = cells_of_lem s at ∙ cells_on s at ∙ ap (cells_at s) (sym eq)

    first_is : ln.first ≡ take (q - at) (drop at s)
    first_is = first_at s at ∙ ap (λ (i : ℕ). take i (drop at s)) (let y : cell_run (drop at s) ≡ q - at = omega (arith, eq) in y)

    test : is_first ln ≡ same_bytes (take (q - at) (drop at s)) first_mark && (leb 1 (length (cells_at s q)) && leb (length (cells_at s q)) column_max)
    test = is_first_lem ln ∙ ap₂ (λ (a : List ℕ) (c : List Part). same_bytes a first_mark && (leb 1 (length c) && leb (length c) column_max)) first_is cells_is

    pub no_head : None ≡ columns_of s at q → (new : List ColumnType) (f : Refused) → f ≡ refused_at bad_header at → HeadTold s (read_all s) new (Err f)
    no_head z new f ef =
        rw ef
        record {
          so = all_from s ∙ ap read_sheet lines_are
              ∙ first_wrong ln rest (test ∙ test_none (same_bytes (take (q - at) (drop at s)) first_mark) (length (cells_at s q)) (z ∙ columns_by s at q));
        }

    pub start_in : (q ≤ length s) × Starts s q
    start_in = cell_ended s at q (omega arith) eq

    module _ (k : ℕ) (ek : Some k ≡ columns_of s at q) where
      tested : (same_bytes (take (q - at) (drop at s)) first_mark && (leb 1 (length (cells_at s q)) && leb (length (cells_at s q)) column_max) ≡ true)
          × ((length (cells_at s q) ≡ k) × ((0 < k) × (k ≤ column_max)))
      tested = test_some (same_bytes (take (q - at) (drop at s)) first_mark) (length (cells_at s q)) k (ek ∙ columns_by s at q)

      due : length (cells_at s q) ≡ k
      due = tested.1.0

      pub columns_in : (0 < k) × (k ≤ column_max)
      columns_in = tested.1.1

      head_is : read_all s ≡ by_names (cells_of (all_strs k) 0 (cells_at s q)) rest
      head_is =
          all_from s ∙ ap read_sheet lines_are ∙ first_right ln rest (test ∙ tested.0)
          ∙ ap (λ (c : List Part). by_names (cells_of (all_strs (length c)) 0 c) rest) cells_is
          ∙ ap (λ (i : ℕ). by_names (cells_of (all_strs i) 0 (cells_at s q)) rest) due

      module _ (types : List ColumnType) (a : AllStrs types) where
        names_are : row_read (take k types) 0 at (cells_at s q) ≡ cells_of (all_strs k) 0 (cells_at s q)
        unfolding row_read pick
        names_are =
            let l : length (cells_at s q) ≡ length (take k types) = due ∙ sym (types_long types k (a k columns_in.1).0) in
            rw (eq-eqb (length (cells_at s q)) (length (take k types)) l) (ap (λ (ts : List ColumnType). cells_of ts 0 (cells_at s q)) (a k columns_in.1).1)

        pub names_stop : (f : Refused) → RowTold (row_read (take k types) 0 at (cells_at s q)) (line_end s q) q k 0 (Err f) → (new : List ColumnType) → HeadTold s (read_all s) new (Err f)
        names_stop f x new =
            let y : row_read (take k types) 0 at (cells_at s q) ≡ refused f.refusal f.place = x.so in
            record { so = head_is ∙ ap (λ (c : Cells). by_names c rest) (sym names_are ∙ y) }

        module _ (r : Row) (x : RowTold (row_read (take k types) 0 at (cells_at s q)) (line_end s q) q k 0 (Ok r)) where
          abbrev e : ℕ
          e = r.end

          abbrev m : ℕ
          m = r.stored

          pub names_got : RowGot (row_read (take k types) 0 at (cells_at s q)) (line_end s q) q k 0 e m
          names_got = x.so

          abbrev ns : List Cell
          ns = names_got.cells

          abbrev bs : List ℕ
          bs = names_got.bytes

          pub names_in : (e ≤ length s) × ((m ≤ e) × ((length names_got.cells ≡ k) × (length names_got.bytes ≡ m)))
          names_in =
              let y = names_got in
              (omega (arith, y.ends, start_in.0, run_within (drop q s), length-drop q s), (y.small, (y.count, omega (arith, y.stored))))

          same_end : line_end s at ≡ line_end s q
          same_end =
              let y : line_run (drop at s) ≡ cell_run (drop at s) + line_run (drop (cell_run (drop at s)) (drop at s)) = line_on (drop at s) (cell_run (drop at s)) (cell_line (drop at s)) in
              omega (arith, y, eq, ap line_run (drop-drop (cell_run (drop at s)) at s ∙ ap (λ (i : ℕ). drop i s) (sym eq)))

          behind_is : read_all s ≡ behind_names names_got.cells names_got.bytes (lines_from s (e + 1))
          behind_is =
              let y : suc (line_end s at) ≡ e + 1 = omega (arith, same_end, names_got.ends) in
              head_is ∙ ap (λ (c : Cells). by_names c rest) (sym names_are ∙ names_got.same) ∙ ap (λ (i : ℕ). behind_names names_got.cells names_got.bytes (lines_from s i)) y

          pub head_told : (new : List ColumnType) (j : Result Outline Refused)
              → ((ns : List Cell) (bs : List ℕ) → length ns ≡ k → length bs ≡ m → BehindTold s (behind_names ns bs (lines_from s (e + 1))) ns bs q k m new j) → HeadTold s (read_all s) new j
          head_told new j f = go j (subst (λ (v : SheetRead). BehindTold s v ns bs q k m new j) (sym behind_is) (f ns bs names_in.1.1.0 names_in.1.1.1))
            where
              go : (j : Result Outline Refused) → BehindTold s (read_all s) ns bs q k m new j → HeadTold s (read_all s) new j
              go (Ok o) u =
                  let y : BehindGot s (read_all s) ns bs q k m new o = u.so in
                  let a : BehindGot s (read_all s) ns bs o.names k m new o = subst (λ (i : ℕ). BehindGot s (read_all s) ns bs i k m new o) (sym y.names) y in
                  let b : BehindGot s (read_all s) ns bs o.names o.columns m new o = subst (λ (i : ℕ). BehindGot s (read_all s) ns bs o.names i m new o) (sym y.columns) a in
                  let c : BehindGot s (read_all s) ns bs o.names o.columns (length bs) new o = subst (λ (i : ℕ). BehindGot s (read_all s) ns bs o.names o.columns i new o) (sym names_in.1.1.1) b in
                  let n = y.names in
                  let g = y.columns in
                  record {
                    so = record {
                      names = ns;
                      before = bs;
                      behind = c;
                      first = (λ i. cells_of (all_strs (g i)) 0 (cells_at s (n i))) ∙ sym names_are ∙ names_got.same;
                      count = names_in.1.1.0 ∙ sym g;
                      due = ap (λ (i : ℕ). length (cells_at s i)) n ∙ due ∙ sym g;
                      few = omega (arith, columns_in.1, g);
                      some = omega (arith, columns_in.0, g);
                      inside = omega (arith, start_in.0, n);
                      starts = subst (Starts s) (sym n) start_in.1;
                    };
                  }
              go (Err f) u = record { so = u.so }
