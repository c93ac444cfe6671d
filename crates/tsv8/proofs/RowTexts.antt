-- A line's cells, one behind another: what is read so far, and the rest.
-- Assumes nothing.
use Prim.Native.Nat.{ℕ, suc, ◌+◌, ◌-◌, ◌≤◌, ◌<◌}
use mathlib.Core.List.{List, [], ◌∷◌, ◌++◌, append-nil, append_assoc}
use mathlib.Core.Path.{◌≡◌, refl, sym, ap, ap₂, subst, ◌∙◌}
use native.Mathlib.Nat.{add-zero, zero-add}
use native.Mathlib.Numerals.{add-one}
use native.Mathlib.Omega.{arith}
use borrow.Author.Tests.{eq-eqb, ne_eqb}
use lib.Dec.{eqb}
use lib.ListN.{length, get_or, take, drop, length-drop, length-append}
use lib.Seq.{drop-cons, drop-drop, length-take-le}
use Rattle.std.specs.Prelude.{Result, Ok, Err}
use Rattle.prelude.specs.declared.refusals.Refused.{Refused}
use Rattle.prelude.specs.Bytes.{TAB, LF}
use Rattle.prelude.specs.Pick.{pick}
use Rattle.prelude.specs.Refusals.{bad_line, refused_at}
use Rattle.prelude.proofs.Cases.{split}
use Rattle.prelude.proofs.Rest.{get_or_inside}
use Rattle.line_ends.specs.inner.Ends.{line_run}
use Rattle.line_ends.proofs.Ends.{run_on}
use Rattle.lines.specs.Line.{strip}
use Rattle.tsv8_cells.specs.declared.cells.Cell.{Cell as CellOut}
use Rattle.tsv8_cells.specs.Parts.{Part, part}
use Rattle.tsv8_cells.specs.declared.columns.ColumnType.{ColumnType}
use Rattle.tsv8_cells.specs.declared.columns.ColumnType.TheVariants.{Bool as bools}
use Rattle.tsv8_cells.specs.Cells.{Cell, cell, Cells, got, refused, more, chain, cell_at, cells_of}
use Rattle.tsv8_cells.specs.inner.Runs.{cell_run, Starts, line_end, cells_at}
use Rattle.tsv8_cells.specs.inner.Told.{stored_by, CellGot, CellBy, CellTold}
use Rattle.tsv8.specs.inner.Rows.{row_read, refused_row, RowTold}
use Rattle.tsv8_cells.proofs.Places.{cell_line, line_on, cells_tab, cells_none, cell_ended}
use Rattle.tsv8_cells.proofs.Stripped.{strip_le, cell_long}

-- joining
pub more_more : (xs cs : List Cell) (bs ds : List ℕ) (x : Cells) → more xs bs (more cs ds x) ≡ more (xs ++ cs) (bs ++ ds) x
more_more xs cs bs ds (got es fs) = λ i. got (sym (append_assoc xs cs es) i) (sym (append_assoc bs ds fs) i)
more_more xs cs bs ds (refused refusal at) = refl

pub more_none : (x : Cells) → more [] [] x ≡ x
more_none (got cs bs) = refl
more_none (refused refusal at) = refl

pub more_got : (xs : List Cell) (bs : List ℕ) → more xs bs (got [] []) ≡ got xs bs
more_got xs bs = λ i. got (append-nil xs i) (append-nil bs i)

-- the types of the columns from one on
abbrev pub types_from : List ColumnType → ℕ → ℕ → List ColumnType
types_from types n k = take (n - k) (drop k types)

pub types_long : (types : List ColumnType) (n : ℕ) → n ≤ length types → length (take n types) ≡ n
types_long types n h = length-take-le n types h

pub types_next : (types : List ColumnType) (n k : ℕ) → k < n → k < length types → types_from types n k ≡ get_or types k bools ∷ types_from types n (k + 1)
types_next types n k h l =
    let z : n - k ≡ suc (n - suc k) = omega arith in
    rw (z, drop-cons types k bools l, add-one k)

pub types_over : (types : List ColumnType) (n k : ℕ) → n ≤ k → types_from types n k ≡ []
types_over types n k h = let z : n - k ≡ 0 = omega arith in rw z

pub types_first : (types : List ColumnType) (n : ℕ) → take n types ≡ types_from types n 0
types_first types n = let z : n ≡ n - 0 = omega arith in ap (λ (k : ℕ). take k types) z

-- one more cell
pub cells_step : (t : ColumnType) (ts : List ColumnType) (m : ℕ) (c : Part) (cs : List Part) → cells_of (t ∷ ts) m (c ∷ cs) ≡ chain m (cell_at t m c) (λ j. cells_of ts j cs)
unfolding cells_of
cells_step t ts m c cs = refl

pub cells_done : (m : ℕ) (cs : List Part) → cells_of [] m cs ≡ got [] []
unfolding cells_of
cells_done m cs = refl

-- k cells are read, from the first tab on to another tab or the line's end; the rest is read as it stands
pub record Reading (s : List ℕ) (types : List ColumnType) (from n m q k j : ℕ) : Type 0 where
  pub cells : List Cell
  pub bytes : List ℕ
  pub same : cells_of (take n types) m (cells_at s from) ≡ more cells bytes (cells_of (types_from types n k) j (cells_at s q))
  pub count : length cells ≡ k
  pub stored : j ≡ m + length bytes
  pub passed : k + length (cells_at s q) ≡ length (cells_at s from)
  pub inside : q ≤ length s
  pub starts : Starts s q
  pub ends : line_end s q ≡ line_end s from
  pub small : j ≤ q
  pub room : from + k ≤ q
  pub few : k ≤ n

pub reading_none : (s : List ℕ) (types : List ColumnType) (from n m : ℕ) → from ≤ length s → Starts s from → m ≤ from → Reading s types from n m from 0 m
reading_none s types from n m h w l =
    record {
      cells = [];
      bytes = [];
      same = ap (λ (ts : List ColumnType). cells_of ts m (cells_at s from)) (types_first types n) ∙ sym (more_none (cells_of (types_from types n 0) m (cells_at s from)));
      count = refl;
      stored = sym (add-zero m);
      passed = zero-add (length (cells_at s from));
      inside = h;
      starts = w;
      ends = refl;
      small = l;
      room = omega arith;
      few = omega arith;
    }

stored_small : (kind size j q e i b : ℕ) {w c : ℕ} → j ≤ q → suc q ≤ e → b ≡ stored_by kind size → i ≡ j + b → size ≤ w → w ≤ c → c ≡ e - (q + 1) → i ≤ e
unfolding stored_by pick
stored_small kind size j q e i b l h eb ei a d g =
    split (eqb kind 6) (λ z. let y : b ≡ size = eb ∙ rw z in omega (arith, y)) (λ z. let y : b ≡ 0 = eb ∙ rw z in omega (arith, y))

-- the line goes on past a tab and the cell behind it
pub tab_passes : (s : List ℕ) (q e : ℕ) → q < length s → get_or s q 0 ≡ TAB → e ≡ suc q + cell_run (drop (suc q) s) → e - q ≤ line_run (drop q s)
tab_passes s q e h t ee =
    let o : line_run (drop q s) ≡ suc (line_run (drop (suc q) s)) = rw (drop-cons s q 0 h) (run_on (get_or s q 0) (drop (suc q) s) (ne_eqb (get_or s q 0) LF (λ z. omega (arith, z, t)))) in
    omega (arith, o, cell_line (drop (suc q) s), ee)

-- a tab at a place
pub tab_there : (s : List ℕ) (q x : ℕ) → x ≡ get_or (drop q s) 0 0 → x ≡ TAB → (q < length s) × (get_or s q 0 ≡ TAB)
tab_there s q x e t =
    let h = get_or_inside (drop q s) 0 (λ z. omega (arith, e, t, z)) in
    let l : q < length s = omega (arith, h, length-drop q s) in
    (l, sym (rw (drop-cons s q 0 l)) ∙ sym e ∙ t)

module _ (s : List ℕ) (types : List ColumnType) (from n m q k j : ℕ) (w : Reading s types from n m q k j) where
  -- the line has as many cells as are due, or not
  abbrev ts : List ColumnType
  ts = take n types

  module _ (a : n ≤ length types) (p x : ℕ) (ex : x ≡ get_or (drop q s) 0 0) where
    wrong : (length (cells_at s from) ≡ n → ⊥) → (f : Refused) → f ≡ refused_at bad_line p → RowTold (row_read ts m p (cells_at s from)) (line_end s from) from n m (Err f)
    unfolding row_read pick
    wrong ne f ef = rw ef record { so = rw (ne_eqb (length (cells_at s from)) (length ts) (λ z. ne (z ∙ types_long types n a))) }

    pub row_short : k < n → (x ≡ TAB → ⊥) → (f : Refused) → f ≡ refused_at bad_line p → RowTold (row_read ts m p (cells_at s from)) (line_end s from) from n m (Err f)
    row_short h t f ef =
        let z : length (cells_at s q) ≡ 0 = ap length (cells_none s q w.starts (λ y. t (ex ∙ y))).0 in
        wrong (λ y. omega (arith, w.passed, z, y)) f ef

    pub row_long : n ≤ k → x ≡ TAB → (f : Refused) → f ≡ refused_at bad_line p → RowTold (row_read ts m p (cells_at s from)) (line_end s from) from n m (Err f)
    row_long h t f ef =
        let (l, g) = tab_there s q x ex t in
        let z : length (cells_at s q) ≡ suc (length (cells_at s (suc q + cell_run (drop (suc q) s)))) = ap length (cells_tab s q l g) in
        wrong (λ y. omega (arith, w.passed, w.few, z, y)) f ef

    pub row_ended : n ≤ k → (x ≡ TAB → ⊥) → RowTold (row_read ts m p (cells_at s from)) (line_end s from) from n m (Ok (record { end = q; stored = j }))
    unfolding row_read pick
    row_ended h f =
        let i = cells_none s q w.starts (λ y. f (ex ∙ y)) in
        let z : length (cells_at s from) ≡ length ts = (let y : length (cells_at s q) ≡ 0 = ap length i.0 in omega (arith, w.passed, w.few, y, types_long types n a)) in
        record {
          so = record {
            cells = w.cells;
            bytes = w.bytes;
            same = rw (eq-eqb (length (cells_at s from)) (length ts) z)
                (w.same ∙ ap (more w.cells w.bytes) (ap (λ (l : List ColumnType). cells_of l j (cells_at s q)) (types_over types n k h) ∙ cells_done j (cells_at s q)) ∙ more_got w.cells w.bytes);
            count = omega (arith, w.count, w.few);
            ends = omega (arith, w.ends, i.1);
            stored = w.stored;
            small = w.small;
            room = omega (arith, w.room, w.few);
          };
        }

  -- one more cell, behind a tab at q
  module _ (x e : ℕ) (ex : x ≡ get_or (drop q s) 0 0) (t : x ≡ TAB) (ee : e ≡ q + 1 + cell_run (drop (q + 1) s)) where
    abbrev there : (q < length s) × (get_or s q 0 ≡ TAB)
    there = tab_there s q x ex t

    on : e ≡ suc q + cell_run (drop (suc q) s)
    on = rw (sym (add-one q)) ee

    pub cell_in : (q + 1 ≤ e) × (e ≤ length s)
    cell_in = let i = cell_ended s (suc q) e there.0 on in (omega (arith, on), i.0)

    pub next_in : q + 1 ≤ length s
    next_in = omega (arith, there.0)

    abbrev c : List ℕ
    c = take (e - (q + 1)) (drop (q + 1) s)

    cells_are : cells_at s q ≡ part (q + 1) c ∷ cells_at s e
    cells_are =
        let z : e - (q + 1) ≡ cell_run (drop (suc q) s) = omega (arith, on) in
        cells_tab s q there.0 there.1
        ∙ (λ i. part (sym (add-one q) i) (take (sym z i) (drop (sym (add-one q) i) s)) ∷ cells_at s (sym on i))

    module _ (h : k < n) (a : n ≤ length types) where
      step : cells_of (types_from types n k) j (cells_at s q) ≡ chain j (cell_at (get_or types k bools) j (part (q + 1) c)) (λ i. cells_of (types_from types n (k + 1)) i (cells_at s e))
      step = ap₂ (λ (l : List ColumnType) (r : List Part). cells_of l j r) (types_next types n k h (omega arith)) cells_are
          ∙ cells_step (get_or types k bools) (types_from types n (k + 1)) j (part (q + 1) c) (cells_at s e)

      line_end_lem : line_end s e ≡ line_end s q
      line_end_lem =
          let r : line_run (drop q s) ≡ e - q + line_run (drop (e - q) (drop q s)) = line_on (drop q s) (e - q) passes in
          let z : q + (e - q) ≡ e = omega (arith, on) in
          omega (arith, r, on, ap line_run (drop-drop (e - q) q s ∙ ap (λ (i : ℕ). drop i s) z))
        where
          passes : e - q ≤ line_run (drop q s)
          passes = tab_passes s q e there.0 there.1 on

      pub reading_more : (r : Result CellOut Refused) (o : CellOut) (b i : ℕ) → CellTold (cell_at (get_or types k bools) j (part (q + 1) c)) (strip c) e j r → r ≡ Ok o
          → b ≡ stored_by o.kind o.size → i ≡ j + b → Reading s types from n m e (k + 1) i
      reading_more r o b i v g eb ei =
          let y : CellGot (cell_at (get_or types k bools) j (part (q + 1) c)) (strip c) e j o.kind o.place o.size = subst (CellBy _ (strip c) e j) g v.so in
          let z : j + length y.bytes ≡ i = omega (arith, y.count, eb, ei) in
          let u = cell_ended s (suc q) e there.0 on in
          record {
            cells = w.cells ++ (cell o.kind o.place o.size ∷ []);
            bytes = w.bytes ++ y.bytes;
            same =
                w.same ∙ ap (more w.cells w.bytes) (step ∙ ap (λ (z : Cells). chain j z (λ d. cells_of (types_from types n (k + 1)) d (cells_at s e))) y.same
                ∙ ap (λ (d : ℕ). more (cell o.kind o.place o.size ∷ []) y.bytes (cells_of (types_from types n (k + 1)) d (cells_at s e))) z)
                ∙ more_more w.cells (cell o.kind o.place o.size ∷ []) w.bytes y.bytes (cells_of (types_from types n (k + 1)) i (cells_at s e));
            count = omega (arith, w.count, length-append w.cells (cell o.kind o.place o.size ∷ []));
            stored = omega (arith, w.stored, z, length-append w.bytes y.bytes);
            passed = (let l : length (cells_at s q) ≡ suc (length (cells_at s e)) = ap length cells_are in omega (arith, w.passed, l));
            inside = u.0;
            starts = u.1;
            ends = line_end_lem ∙ w.ends;
            small = stored_small o.kind o.size j q e i b w.small (on_le) eb ei y.small (strip_le c) (cell_long s (q + 1) e cell_in.0 cell_in.1);
            room = omega (arith, w.room, on);
            few = omega arith;
          }
        where
          on_le : suc q ≤ e
          on_le = omega (arith, on)

      pub row_refused : (r : Result CellOut Refused) (f : Refused) (p : ℕ) (v : Refused) → CellTold (cell_at (get_or types k bools) j (part (q + 1) c)) (strip c) e j r → r ≡ Err f
          → v ≡ refused_row (length (cells_at s from)) n p f → RowTold (row_read ts m p (cells_at s from)) (line_end s from) from n m (Err v)
      unfolding row_read refused_row pick
      row_refused r f p v x g ev =
          let y : cell_at (get_or types k bools) j (part (q + 1) c) ≡ refused f.refusal f.place = subst (CellBy _ (strip c) e j) g x.so in
          let z : cells_of ts m (cells_at s from) ≡ refused f.refusal f.place =
          w.same ∙ ap (more w.cells w.bytes) (step ∙ ap (λ (z : Cells). chain j z (λ d. cells_of (types_from types n (k + 1)) d (cells_at s e))) y) in
          let l : length ts ≡ n = types_long types n a in
          subst (λ (u : Refused). RowTold (row_read ts m p (cells_at s from)) (line_end s from) from n m (Err u)) (sym ev)
          (split (eqb (length (cells_at s from)) n)
          (λ d. rw d (record { so = rw (l, d) z }))
          (λ d. rw d (record { so = rw (l, d) })))

-- a refusal by the count
module _ (c d n p : ℕ) (f : Refused) (e : d ≡ c) where
  pub refuse_count : (d ≡ n → ⊥) → (g : Refused) → g ≡ refused_at bad_line p → g ≡ refused_row c n p f
  unfolding refused_row pick
  refuse_count ne g eg = rw eg (rw (ne_eqb c n (λ z. ne (e ∙ z))))

  pub refuse_fault : d ≡ n → f ≡ refused_row c n p f
  unfolding refused_row pick
  refuse_fault q = rw (eq-eqb c n (sym e ∙ q))
