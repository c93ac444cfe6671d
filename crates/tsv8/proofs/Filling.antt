-- Cells stored one behind another: those without a fault are the first and those behind it.
-- Assumes nothing.
use Prim.Native.Nat.{ℕ, suc, ◌+◌, ◌-◌, ◌*◌, ◌≤◌, ◌<◌}
use mathlib.Core.Bool.{Bool, true, false}
use mathlib.Core.List.{List, [], ◌∷◌, ◌++◌, append-nil, append_assoc, map}
use mathlib.Core.Path.{◌≡◌, refl, sym, ap, ap₂, subst, ◌∙◌}
use native.Mathlib.Nat.{add-zero, zero-add}
use native.Mathlib.Numerals.{add-one}
use native.Mathlib.Omega.{arith}
use borrow.Author.Tests.{eq-eqb, ne_eqb, eqb-true, eqb-false}
use borrow.Rule.Slice.PartMut.{put_mid}
use lib.Dec.{eqb}
use lib.ListN.{length, get_or, take, drop, set, length-drop, length-append}
use lib.Seq.{sets, length-sets, drop-drop, take-suc, length-take-le}
use Rattle.std.specs.Prelude.{Result, Ok, Err}
use Rattle.prelude.specs.declared.refusals.Refused.{Refused}
use Rattle.prelude.specs.Bytes.{TAB}
use Rattle.prelude.specs.Limits.{text_max}
use Rattle.prelude.specs.Pick.{pick}
use Rattle.prelude.proofs.Cases.{split, never}
use Rattle.prelude.proofs.Picks.{pick_case}
use Rattle.prelude.proofs.Stores.{sets_append, part_filled}
use Rattle.line_ends.specs.inner.Ends.{line_run}
use Rattle.line_ends.proofs.Ends.{run_within}
use Rattle.notation.specs.Marks.{Opening, opens, unopened, opening}
use Rattle.strings.specs.Read.{read_token}
use Rattle.string_tokens.specs.inner.Quotes.{denoted}
use Rattle.tokens.specs.Words.{same_bytes, false_word, true_word}
use Rattle.json8.specs.Leaves.{slashed}
use Rattle.lines.specs.Line.{LineRead, ignored, holds, faulty, leads, strip, trimmed, read_stripped}
use Rattle.lines.proofs.LineEnds.{strip_part}
use Rattle.tsv8_cells.specs.declared.cells.Cell.{Cell as CellOut}
use Rattle.tsv8_cells.specs.Parts.{Part, part}
use Rattle.tsv8_cells.specs.declared.columns.ColumnType.{ColumnType}
use Rattle.tsv8_cells.specs.declared.columns.ColumnType.TheVariants.{Bool as bools, Int as ints, Float as floats, Str as strs}
use Rattle.tsv8_cells.specs.Types.{type_number, is_int, is_float}
use Rattle.tsv8_cells.specs.Cells.{Cell, cell, Cells, got, refused, more, chain, string_cell, cell_for, cell_by, cell_at, cells_of}
use Rattle.tsv8.specs.Lines.{read_lines}
use Rattle.tsv8.specs.Answers.{flat}
use Rattle.tsv8_cells.specs.inner.Runs.{cell_run, Starts, line_end, cells_at, lines_from}
use Rattle.tsv8_cells.specs.inner.Told.{stored_by, CellGot, CellBy, CellTold}
use Rattle.tsv8.specs.inner.Rows.{row_read}
use Rattle.tsv8.specs.inner.Stored.{cells_in, bytes_in, cell_here, Fits}
use Rattle.tsv8_cells.proofs.Places.{line_on, cells_tab, cells_none, cell_ended, lines_none}
use Rattle.tsv8_cells.proofs.Stripped.{strip_le, cell_long}
use Rattle.tsv8.proofs.RowTexts.{types_from, types_long, types_next, types_over, types_first, cells_step, cells_done, tab_there, tab_passes}
use Rattle.tsv8.proofs.LineTexts.{skip_got, row_reads, row_got}

pub flat_append : (a b : List Cell) → flat (a ++ b) ≡ flat a ++ flat b
unfolding flat
flat_append [] b = refl
flat_append (c ∷ a) b = ap (λ (l : List ℕ). c.kind ∷ c.place ∷ c.size ∷ l) (flat_append a b)

pub flat_length : (a : List Cell) → length (flat a) ≡ 3 * length a
unfolding flat
flat_length [] = refl
flat_length (c ∷ a) = let h = flat_length a in omega (arith, h)

-- one behind another, without a fault
pub record Chained (m : ℕ) (first : Cells) (go : ℕ → Cells) (cs : List Cell) (bs : List ℕ) : Type 0 where
  pub cells : List Cell
  pub bytes : List ℕ
  pub same : first ≡ got cells bytes
  pub others : List Cell
  pub rest : List ℕ
  pub behind : go (m + length bytes) ≡ got others rest
  pub all : cs ≡ cells ++ others
  pub every : bs ≡ bytes ++ rest

more_is : (xs : List Cell) (ys : List ℕ) (x : Cells) (cs : List Cell) (bs : List ℕ) → more xs ys x ≡ got cs bs
    → (o : List Cell) × ((r : List ℕ) × ((x ≡ got o r) × ((cs ≡ xs ++ o) × (bs ≡ ys ++ r))))
more_is xs ys (got o r) cs bs e = (o, (r, (refl, (let a : xs ++ o ≡ cs = cc in sym a, let b : ys ++ r ≡ bs = cc in sym b))))
more_is xs ys (refused refusal at) cs bs e = never cc

pub chained : (m : ℕ) (x : Cells) (go : ℕ → Cells) (cs : List Cell) (bs : List ℕ) → chain m x go ≡ got cs bs → Chained m x go cs bs
chained m (got xs ys) go cs bs e =
    let (o, (r, (a, (b, d)))) = more_is xs ys (go (m + length ys)) cs bs e in
    record { cells = xs; bytes = ys; same = refl; others = o; rest = r; behind = a; all = b; every = d }
chained m (refused refusal at) go cs bs e = never cc

-- a cell that is read is one
abbrev One : Cells → Type 0
One (got cs bs) = length cs ≡ 1
One (refused refusal at) = Unit

pick_one : (b : Bool) (x y : Cells) → One x → One y → One (pick b x y)
pick_one b x y f g = pick_case One b x y (λ e. f) (λ e. g)

string_one : (o : Opening) (b : Bool) (p m : ℕ) (w bs : List ℕ) → One (string_cell o b p m w bs)
string_one unopened b p m w bs = refl
string_one (opens st k) true p m w bs = refl
string_one (opens st k) false p m w bs = refl

for_one : (t : ColumnType) (q p m : ℕ) (w bs : List ℕ) → One (cell_for t q p m w bs)
for_one bools q p m w bs = pick_one (same_bytes w false_word) _ _ refl (pick_one (same_bytes w true_word) _ _ refl tt)
for_one ints q p m w bs = pick_one (is_int w) _ _ refl tt
for_one floats q p m w bs = pick_one (is_float w) _ _ refl tt
for_one strs q p m w bs = string_one (opening w) (slashed w) p m w bs

by_one : (v : LineRead) (t : ColumnType) (q p m : ℕ) (w : List ℕ) → One (cell_by v t q p m w)
by_one ignored t q p m w = tt
by_one (faulty refusal at) t q p m w = tt
by_one (holds kind bs) t q p m w = for_one t q p m w bs

pub cell_one : (t : ColumnType) (m : ℕ) (c : Part) (cs : List Cell) (bs : List ℕ) → cell_at t m c ≡ got cs bs → length cs ≡ 1
unfolding cell_at
cell_one t m c cs bs e = subst One e (by_one (read_stripped (strip c.bytes)) t c.place (c.place + leads c.bytes) m (strip c.bytes))

-- as many cells as columns
pub cells_count : (ts : List ColumnType) (m : ℕ) (ps : List Part) (cs : List Cell) (bs : List ℕ) → cells_of ts m ps ≡ got cs bs → length ps ≡ length ts → length cs ≡ length ts
cells_count [] m ps cs bs e l = let z : got [] [] ≡ got cs bs = sym (cells_done m ps) ∙ e in let y : [] ≡ cs = cc in ap length (sym y)
cells_count (t ∷ ts) m [] cs bs e l = absurd (omega (arith, l))
cells_count (t ∷ ts) m (c ∷ ps) cs bs e l =
    let x = chained m (cell_at t m c) (λ j. cells_of ts j ps) cs bs (sym (cells_step t ts m c ps) ∙ e) in
    let i = cells_count ts (m + length x.bytes) ps x.others x.rest x.behind (omega (arith, l)) in
    omega (arith, i, cell_one t m c x.cells x.bytes x.same, ap length x.all, length-append x.cells x.others)

flat_one : (c : Cell) → flat (c ∷ []) ≡ c.kind ∷ c.place ∷ c.size ∷ []
unfolding flat
flat_one c = refl

flat_none : flat [] ≡ []
unfolding flat
flat_none = refl

-- one cell
module _ (s : List ℕ) (q e : ℕ) (ty : ColumnType) (i m : ℕ) (h : q ≤ length s) (ee : e ≡ q + cell_run (drop q s)) where
  abbrev w : List ℕ
  w = strip (take (e - q) (drop q s))

  abbrev want : Cells
  want = cell_here s ty m q

  pub here_in : (q ≤ e) × (e ≤ length s)
  here_in = (omega (arith, ee), (cell_ended s q e h ee).0)

  here_is : cell_at ty m (part q (take (e - q) (drop q s))) ≡ want
  here_is = ap (λ (k : ℕ). cell_at ty m (part q (take k (drop q s)))) (let z : e - q ≡ cell_run (drop q s) = omega (arith, ee) in z)

  module _ (r : Result CellOut Refused) (v : CellTold (cell_at ty m (part q (take (e - q) (drop q s)))) w e m r) where
    module _ (o : CellOut) (g : r ≡ Ok o) where
      abbrev kind : ℕ
      kind = o.kind

      abbrev place : ℕ
      place = o.place

      abbrev size : ℕ
      size = o.size

      told : CellGot (cell_at ty m (part q (take (e - q) (drop q s)))) w e m kind place size
      told = subst (CellBy _ w e m) g v.so

      same : want ≡ got (cell kind place size ∷ []) told.bytes
      same = sym here_is ∙ told.same

      pub numbers_small : length s ≤ text_max → m ≤ text_max + 1 → (place ≤ text_max + 1) × (size ≤ text_max + 1)
      numbers_small l n =
          let y = told in
          let k : size ≤ text_max = omega (arith, y.small, strip_le (take (e - q) (drop q s)), cell_long s q e here_in.0 here_in.1, here_in.1) in
          split (eqb kind 6) (λ z. (omega (arith, y.stored (eqb-true kind 6 z)), omega (arith, k)))
          (λ z. (omega (arith, y.inside (eqb-false kind 6 z), here_in.1), omega (arith, k)))

      stored_table : (t t' : List ℕ) → t' ≡ sets t (3 * i) (kind ∷ place ∷ size ∷ []) → t' ≡ sets t (3 * i) (flat (cells_in want))
      stored_table t t' x = x ∙ ap (sets t (3 * i)) (sym (ap (λ (y : Cells). flat (cells_in y)) same ∙ one_flat))
        where
          one_flat : flat (cell kind place size ∷ []) ≡ kind ∷ place ∷ size ∷ []
          one_flat = flat_one (cell kind place size)

      -- a string with an escape
      module _ (six : kind ≡ 6) where
        bytes_are : told.bytes ≡ denoted (read_token w)
        unfolding pick
        bytes_are = told.denotes ∙ rw (eq-eqb kind 6 six)

        size_is : length told.bytes ≡ size
        unfolding stored_by pick
        size_is = told.count ∙ rw (eq-eqb kind 6 six)

        pub six_room : (l : ℕ) → m + length (bytes_in want) ≤ l → m + size ≤ l
        six_room l x = omega (arith, x, size_is, ap (λ (y : Cells). length (bytes_in y)) same)

        pub six_asks : (st : List ℕ) → m + length (bytes_in want) ≤ length st → length (take (m + size - m) (drop m st)) ≡ length (denoted (read_token w))
        six_asks st x =
            length-take-le (m + size - m) (drop m st) (omega (arith, length-drop m st, six_room (length st) x)) ∙ (let z : m + size - m ≡ size = omega arith in z) ∙ sym size_is ∙ ap length bytes_are

        pub six_put : (t t' st new : List ℕ) → t' ≡ sets t (3 * i) (kind ∷ place ∷ size ∷ []) → new ≡ denoted (read_token w) → m + length (bytes_in want) ≤ length st
            → (e ≡ q + cell_run (drop q s)) × ((m + size ≡ m + length (bytes_in want)) × ((t' ≡ sets t (3 * i) (flat (cells_in want))) × (put_mid m (m + size - m) st new ≡ sets st m (bytes_in want))))
        six_put t t' st new x n l =
            let b : new ≡ bytes_in want = n ∙ sym bytes_are ∙ sym (ap bytes_in same) in (
              ee,
              (
                omega (arith, size_is, ap (λ (y : Cells). length (bytes_in y)) same),
                (
                  stored_table t t' x,
                  part_filled st new m (m + size) (omega (arith, ap length b, size_is, ap (λ (y : Cells). length (bytes_in y)) same)) (six_room (length st) l) ∙ ap (sets st m) b,
                ),
              ),
            )

      pub other_put : (kind ≡ 6 → ⊥) → (t t' st : List ℕ) → t' ≡ sets t (3 * i) (kind ∷ place ∷ size ∷ [])
          → (e ≡ q + cell_run (drop q s)) × ((m ≡ m + length (bytes_in want)) × ((t' ≡ sets t (3 * i) (flat (cells_in want))) × (st ≡ sets st m (bytes_in want))))
      unfolding pick
      other_put ne t t' st x =
          let b : bytes_in want ≡ [] = ap bytes_in same ∙ told.denotes ∙ rw (ne_eqb kind 6 ne) in
          (ee, (omega (arith, ap length b), (stored_table t t' x, ap (sets st m) (sym b))))

    pub none_put : (f : Refused) → r ≡ Err f → (t st : List ℕ)
        → (e ≡ q + cell_run (drop q s)) × ((m ≡ m + length (bytes_in want)) × ((t ≡ sets t (3 * i) (flat (cells_in want))) × (st ≡ sets st m (bytes_in want))))
    none_put f g t st =
        let y : want ≡ refused f.refusal f.place = sym here_is ∙ subst (CellBy _ w e m) g v.so in
        let b : bytes_in want ≡ [] = ap bytes_in y in
        let d : flat (cells_in want) ≡ [] = ap (λ (x : Cells). flat (cells_in x)) y ∙ flat_none in
        (ee, (omega (arith, ap length b), (ap (sets t (3 * i)) (sym d), ap (sets st m) (sym b))))

-- the bytes of a cell's text
pub fill_asks : (c : List ℕ) (a n k : ℕ) → a ≡ leads c → n ≡ length (trimmed (take (length c - a) (drop a c))) → k ≡ length (denoted (read_token (strip c)))
    → k ≡ length (denoted (read_token (take (a + n - a) (drop a c))))
fill_asks c a n k ea en e = e ∙ ap (λ (x : List ℕ). length (denoted (read_token x))) (sym (strip_part c a n ea en))

pub filled_is : (c new : List ℕ) (a n : ℕ) → a ≡ leads c → n ≡ length (trimmed (take (length c - a) (drop a c))) → new ≡ denoted (read_token (take (a + n - a) (drop a c)))
    → new ≡ denoted (read_token (strip c))
filled_is c new a n ea en e = e ∙ ap (λ (x : List ℕ). denoted (read_token x)) (strip_part c a n ea en)

-- a line's cells: k are stored, and the rest is left
pub record Writing (s : List ℕ) (types : List ColumnType) (from n i m : ℕ) (cs : List Cell) (bs table₀ store₀ : List ℕ) (q k j : ℕ) (table store : List ℕ) : Type 0 where
  pub cells : List Cell
  pub bytes : List ℕ
  pub others : List Cell
  pub left : List ℕ
  pub rest : cells_of (types_from types n k) j (cells_at s q) ≡ got others left
  pub all : cs ≡ cells ++ others
  pub every : bs ≡ bytes ++ left
  pub count : length cells ≡ k
  pub stored : j ≡ m + length bytes
  pub due : k + length (cells_at s q) ≡ n
  pub inside : q ≤ length s
  pub starts : Starts s q
  pub ends : line_end s q ≡ line_end s from
  pub few : k ≤ n
  pub numbers : table ≡ sets table₀ (3 * i) (flat cells)
  pub put : store ≡ sets store₀ m bytes

module _ (s : List ℕ) (types : List ColumnType) (from n i m : ℕ) (table₀ store₀ : List ℕ) (a : n ≤ length types) (f : Fits (cells_of (take n types) m (cells_at s from)) i m table₀ store₀)
    (d : length (cells_at s from) ≡ n) where
  row_count : length f.cells ≡ n
  row_count = cells_count (take n types) m (cells_at s from) f.cells f.bytes f.same (d ∙ sym (types_long types n a)) ∙ types_long types n a

  pub writing_none : from ≤ length s → Starts s from → Writing s types from n i m f.cells f.bytes table₀ store₀ from 0 m table₀ store₀
  unfolding flat
  writing_none h w =
      record {
        cells = [];
        bytes = [];
        others = f.cells;
        left = f.bytes;
        rest = ap (λ (ts : List ColumnType). cells_of ts m (cells_at s from)) (sym (types_first types n)) ∙ f.same;
        all = refl;
        every = refl;
        count = refl;
        stored = sym (add-zero m);
        due = zero-add (length (cells_at s from)) ∙ d;
        inside = h;
        starts = w;
        ends = refl;
        few = omega arith;
        numbers = refl;
        put = refl;
      }

  module _ (q k j : ℕ) (table store : List ℕ) (w : Writing s types from n i m f.cells f.bytes table₀ store₀ q k j table store) where
    pub table_long : length table ≡ length table₀
    table_long = ap length w.numbers ∙ length-sets table₀ (3 * i) (flat w.cells)

    pub store_long : length store ≡ length store₀
    store_long = ap length w.put ∙ length-sets store₀ m w.bytes

    pub row_put : n ≤ k → (q ≡ line_end s from) × ((j ≡ m + length (bytes_in (cells_of (take n types) m (cells_at s from))))
        × ((table ≡ sets table₀ (3 * i) (flat (cells_in (cells_of (take n types) m (cells_at s from))))) × (store ≡ sets store₀ m (bytes_in (cells_of (take n types) m (cells_at s from))))))
    row_put h =
        let z : got [] [] ≡ got w.others w.left = sym (ap (λ (ts : List ColumnType). cells_of ts j (cells_at s q)) (types_over types n k h) ∙ cells_done j (cells_at s q)) ∙ w.rest in
        let o : [] ≡ w.others = cc in
        let l : [] ≡ w.left = cc in
        let cs : w.cells ≡ cells_in (cells_of (take n types) m (cells_at s from)) = sym (append-nil w.cells) ∙ ap (λ (x : List Cell). w.cells ++ x) o ∙ sym w.all ∙ sym (ap cells_in f.same) in
        let bs : w.bytes ≡ bytes_in (cells_of (take n types) m (cells_at s from)) = sym (append-nil w.bytes) ∙ ap (λ (x : List ℕ). w.bytes ++ x) l ∙ sym w.every ∙ sym (ap bytes_in f.same) in
        (at_end_lem, (w.stored ∙ ap (λ (x : List ℕ). m + length x) bs, (w.numbers ∙ ap (λ (x : List Cell). sets table₀ (3 * i) (flat x)) cs, w.put ∙ ap (sets store₀ m) bs)))
      where
        over : line_run (drop q s) ≡ 0
        over =
            split (eqb (get_or (drop q s) 0 0) TAB)
            (λ t. let (g, y) = tab_there s q (get_or (drop q s) 0 0) refl (eqb-true (get_or (drop q s) 0 0) TAB t) in
            let u : length (cells_at s q) ≡ suc (length (cells_at s (suc q + cell_run (drop (suc q) s)))) = ap length (cells_tab s q g y) in
            absurd (omega (arith, w.due, w.few, u)))
            (λ t. (cells_none s q w.starts (eqb-false (get_or (drop q s) 0 0) TAB t)).1)

        at_end_lem : q ≡ line_end s from
        at_end_lem = omega (arith, over, w.ends)

    module _ (h : k < n) where
      pub tab_next : (q < length s) × (get_or s q 0 ≡ TAB)
      tab_next =
          split (eqb (get_or (drop q s) 0 0) TAB) (λ t. tab_there s q (get_or (drop q s) 0 0) refl (eqb-true (get_or (drop q s) 0 0) TAB t))
          (λ t. let z : length (cells_at s q) ≡ 0 = ap length (cells_none s q w.starts (eqb-false (get_or (drop q s) 0 0) TAB t)).0 in absurd (omega (arith, w.due, z)))

      abbrev one : Cells
      one = cell_here s (get_or types k bools) j (q + 1)

      abbrev e : ℕ
      e = q + 1 + cell_run (drop (q + 1) s)

      cells_are : cells_at s q ≡ part (q + 1) (take (cell_run (drop (q + 1) s)) (drop (q + 1) s)) ∷ cells_at s e
      cells_are =
          cells_tab s q tab_next.0 tab_next.1
          ∙ (λ y. part (sym (add-one q) y) (take (cell_run (drop (sym (add-one q) y) s)) (drop (sym (add-one q) y) s)) ∷ cells_at s (sym (add-one q) y + cell_run (drop (sym (add-one q) y) s)))

      step : Chained j one (λ y. cells_of (types_from types n (k + 1)) y (cells_at s e)) w.others w.left
      step =
          chained j one (λ y. cells_of (types_from types n (k + 1)) y (cells_at s e)) w.others w.left
          (sym (ap₂ (λ (l : List ColumnType) (r : List Part). cells_of l j r) (types_next types n k h (omega arith)) cells_are
          ∙ cells_step (get_or types k bools) (types_from types n (k + 1)) j (part (q + 1) (take (cell_run (drop (q + 1) s)) (drop (q + 1) s))) (cells_at s e)) ∙ w.rest)

      one_bytes : length (bytes_in one) ≡ length step.bytes
      one_bytes = ap (λ (x : Cells). length (bytes_in x)) step.same

      -- room for it
      pub cell_fits : (q + 1 ≤ length s) × ((j ≤ text_max + 1) × ((3 * (i + k) + 3 ≤ length table) × (j + length (bytes_in one) ≤ length store)))
      cell_fits =
          let b = ap length w.every ∙ length-append w.bytes w.left in
          let c = ap length step.every ∙ length-append step.bytes step.rest in
          (omega (arith, tab_next.0), (omega (arith, f.short, w.stored, b), (omega (arith, f.room, row_count, table_long), omega (arith, one_bytes, f.long, w.stored, b, c, store_long))))

      pub writing_more : (end count : ℕ) (t' s' : List ℕ) → (end ≡ e) × ((count ≡ j + length (bytes_in one)) × ((t' ≡ sets table (3 * (i + k)) (flat (cells_in one))) × (s' ≡ sets store j (bytes_in one))))
          → Writing s types from n i m f.cells f.bytes table₀ store₀ end (k + 1) count t' s'
      writing_more end count t' s' (ue, (uc, (ut, us))) =
          let x = step in
          let n1 = cell_one (get_or types k bools) j (part (q + 1) (take (cell_run (drop (q + 1) s)) (drop (q + 1) s))) x.cells x.bytes x.same in
          let lc : cells_in one ≡ x.cells = ap cells_in x.same in
          let lb : bytes_in one ≡ x.bytes = ap bytes_in x.same in
          let ce = cell_ended s (q + 1) end cell_fits.0 ue in
          record {
            cells = w.cells ++ x.cells;
            bytes = w.bytes ++ x.bytes;
            others = x.others;
            left = x.rest;
            rest = (λ y. cells_of (types_from types n (k + 1)) (counted y) (cells_at s (ue y))) ∙ x.behind;
            all = w.all ∙ ap (λ (y : List Cell). w.cells ++ y) x.all ∙ sym (append_assoc w.cells x.cells x.others);
            every = w.every ∙ ap (λ (y : List ℕ). w.bytes ++ y) x.every ∙ sym (append_assoc w.bytes x.bytes x.rest);
            count = omega (arith, w.count, n1, length-append w.cells x.cells);
            stored = omega (arith, counted, w.stored, length-append w.bytes x.bytes);
            due = (let l : length (cells_at s q) ≡ suc (length (cells_at s e)) = ap length cells_are in omega (arith, w.due, l, ap (λ (y : ℕ). length (cells_at s y)) ue));
            inside = ce.0;
            starts = ce.1;
            ends = line_end_lem ue ∙ w.ends;
            few = omega arith;
            numbers = ut ∙ (λ y. sets (w.numbers y) (3 * (i + k)) (flat (lc y))) ∙ sets_append (flat w.cells) (flat x.cells) table₀ (3 * i) (3 * (i + k)) (omega (arith, flat_length w.cells, w.count))
                ∙ ap (sets table₀ (3 * i)) (sym (flat_append w.cells x.cells));
            put = us ∙ (λ y. sets (w.put y) j (lb y)) ∙ sets_append w.bytes x.bytes store₀ m j (sym w.stored);
          }
        where
          counted : count ≡ j + length step.bytes
          counted = uc ∙ ap (λ (y : ℕ). j + y) one_bytes

          line_end_lem : end ≡ e → line_end s end ≡ line_end s q
          line_end_lem u =
              let on : end ≡ suc q + cell_run (drop (suc q) s) = rw (sym (add-one q)) u in
              let r : line_run (drop q s) ≡ end - q + line_run (drop (end - q) (drop q s)) = line_on (drop q s) (end - q) (tab_passes s q end tab_next.0 tab_next.1 on) in
              let z : q + (end - q) ≡ end = omega (arith, on) in
              omega (arith, r, on, ap line_run (drop-drop (end - q) q s ∙ ap (λ (y : ℕ). drop y s) z))

-- by the parts of what is read
pub normal_room : (want : Cells) (i m : ℕ) (table store : List ℕ) → Fits want i m table store → 3 * (i + length (cells_in want)) ≤ length table
normal_room want i m table store f = omega (arith, f.room, ap (λ (x : Cells). length (cells_in x)) f.same)

pub normal_long : (want : Cells) (i m : ℕ) (table store : List ℕ) → Fits want i m table store → m + length (bytes_in want) ≤ length store
normal_long want i m table store f = omega (arith, f.long, ap (λ (x : Cells). length (bytes_in x)) f.same)

pub normal_short : (want : Cells) (i m : ℕ) (table store : List ℕ) → Fits want i m table store → m + length (bytes_in want) ≤ text_max + 1
normal_short want i m table store f = omega (arith, f.short, ap (λ (x : Cells). length (bytes_in x)) f.same)

abbrev pub normal : (want : Cells) (i m : ℕ) (table store : List ℕ) → Fits want i m table store → Fits want i m table store
normal want i m table store f =
    record {
      cells = cells_in want;
      bytes = bytes_in want;
      same = f.same ∙ (λ y. got (sym (ap cells_in f.same) y) (sym (ap bytes_in f.same) y));
      room = normal_room want i m table store f;
      long = normal_long want i m table store f;
      short = normal_short want i m table store f;
    }

-- three numbers
pub three_put : (t : List ℕ) (i k p p' z z' : ℕ) → p' ≡ p → z' ≡ z → set (set (set t i k) (i + 1) p') (i + 2) z' ≡ sets t i (k ∷ p ∷ z ∷ [])
three_put t i k p p' z z' ep ez =
    let a : i + 2 ≡ suc (suc i) = omega arith in
    (λ y. set (set (set t i k) (add-one i y) (ep y)) (a y) (ez y))

-- the numbers of types
map_append : (a b : List ColumnType) → map type_number (a ++ b) ≡ map type_number a ++ map type_number b
map_append [] b = refl
map_append (t ∷ a) b = ap (λ (l : List ℕ). type_number t ∷ l) (map_append a b)

map_length : (a : List ColumnType) → length (map type_number a) ≡ length a
map_length [] = refl
map_length (t ∷ a) = ap suc (map_length a)

abbrev pub numbers_of : List ColumnType → ℕ → List ℕ
numbers_of types k = map type_number (take k types)

-- the first k are stored
pub record Numbering (types : List ColumnType) (out₀ : List ℕ) (n k : ℕ) (out : List ℕ) : Type 0 where
  pub few : k ≤ n
  pub same : out ≡ sets out₀ 0 (numbers_of types k)

pub types_none : (types : List ColumnType) (out : List ℕ) (n : ℕ) → Numbering types out n 0 out
types_none types out n = record { few = omega arith; same = refl }

numbers_more : (types : List ColumnType) (k : ℕ) → k < length types → numbers_of types (k + 1) ≡ numbers_of types k ++ (type_number (get_or types k bools) ∷ [])
numbers_more types k h = rw (add-one k, take-suc types k bools h) (map_append (take k types) (get_or types k bools ∷ []))

pub numbers_length : (types : List ColumnType) (k : ℕ) → k ≤ length types → length (numbers_of types k) ≡ k
numbers_length types k h = map_length (take k types) ∙ types_long types k h

module _ (types : List ColumnType) (out₀ : List ℕ) (n k : ℕ) (out : List ℕ) (w : Numbering types out₀ n k out) where
  pub types_more : (v : ℕ) → k < n → n ≤ length types → v ≡ type_number (get_or types k bools) → Numbering types out₀ n (k + 1) (set out k v)
  types_more v h l ev =
      record {
        few = omega arith;
        same =
            (λ y. set (w.same y) k (ev y)) ∙ sets_append (numbers_of types k) (type_number (get_or types k bools) ∷ []) out₀ 0 k (omega (arith, numbers_length types k (omega arith)))
            ∙ ap (sets out₀ 0) (sym (numbers_more types k (omega arith)));
      }

  pub types_still : length out ≡ length out₀
  types_still = ap length w.same ∙ length-sets out₀ 0 (numbers_of types k)

  pub types_all : n ≤ k → out ≡ sets out₀ 0 (numbers_of types n)
  types_all h = let z : k ≡ n = omega (arith, w.few) in w.same ∙ ap (λ (i : ℕ). sets out₀ 0 (numbers_of types i)) z

-- all lines: those passed are stored, and the rest is left
pub record Spreading (s : List ℕ) (ts : List ColumnType) (m : ℕ) (cs : List Cell) (bs table₀ store₀ : List ℕ) (at i j : ℕ) (table store : List ℕ) : Type 0 where
  pub behind : Bool
  pub cells : List Cell
  pub bytes : List ℕ
  pub others : List Cell
  pub left : List ℕ
  pub rest : read_lines behind ts j (lines_from s at) ≡ got others left
  pub all : cs ≡ cells ++ others
  pub every : bs ≡ bytes ++ left
  pub count : length cells ≡ i
  pub stored : j ≡ m + length bytes
  pub inside : at ≤ length s + 1
  pub numbers : table ≡ sets table₀ 0 (flat cells)
  pub put : store ≡ sets store₀ m bytes

module _ (s : List ℕ) (types : List ColumnType) (from n m : ℕ) (table₀ store₀ : List ℕ) (a : n ≤ length types)
    (f : Fits (read_lines false (take n types) m (lines_from s from)) 0 m table₀ store₀) where
  abbrev ts : List ColumnType
  ts = take n types

  pub spreading_none : from ≤ length s + 1 → Spreading s ts m f.cells f.bytes table₀ store₀ from 0 m table₀ store₀
  unfolding flat
  spreading_none h =
      record {
        behind = false;
        cells = [];
        bytes = [];
        others = f.cells;
        left = f.bytes;
        rest = f.same;
        all = refl;
        every = refl;
        count = refl;
        stored = sym (add-zero m);
        inside = h;
        numbers = refl;
        put = refl;
      }

  module _ (at i j : ℕ) (table store : List ℕ) (w : Spreading s ts m f.cells f.bytes table₀ store₀ at i j table store) where
    pub spread_table : length table ≡ length table₀
    spread_table = ap length w.numbers ∙ length-sets table₀ 0 (flat w.cells)

    pub spread_store : length store ≡ length store₀
    spread_store = ap length w.put ∙ length-sets store₀ m w.bytes

    pub spread_end : length s ≤ at
        → (table ≡ sets table₀ 0 (flat (cells_in (read_lines false ts m (lines_from s from))))) × (store ≡ sets store₀ m (bytes_in (read_lines false ts m (lines_from s from))))
    unfolding read_lines
    spread_end h =
        let z : got [] [] ≡ got w.others w.left = sym (ap (read_lines w.behind ts j) (lines_none s at h)) ∙ w.rest in
        let o : [] ≡ w.others = cc in
        let l : [] ≡ w.left = cc in (
          w.numbers ∙ ap (λ (x : List Cell). sets table₀ 0 (flat x)) (sym (append-nil w.cells) ∙ ap (λ (x : List Cell). w.cells ++ x) o ∙ sym w.all ∙ sym (ap cells_in f.same)),
          w.put ∙ ap (sets store₀ m) (sym (append-nil w.bytes) ∙ ap (λ (x : List ℕ). w.bytes ++ x) l ∙ sym w.every ∙ sym (ap bytes_in f.same)),
        )

    module _ (h : at < length s) where
      pub line_within : line_end s at ≤ length s
      line_within = omega (arith, run_within (drop at s), length-drop at s)

      pub spread_skip : (e : ℕ) → (get_or s at 0 ≡ TAB → ⊥) → e ≡ at + line_run (drop at s) → Spreading s ts m f.cells f.bytes table₀ store₀ (e + 1) i j table store
      spread_skip e t ee =
          let (b, g) = skip_got s at h w.behind ts j t w.others w.left w.rest in
          let z : suc (line_end s at) ≡ e + 1 = omega (arith, ee) in
          record {
            behind = b;
            cells = w.cells;
            bytes = w.bytes;
            others = w.others;
            left = w.left;
            rest = ap (λ (k : ℕ). read_lines b ts j (lines_from s k)) (sym z) ∙ g;
            all = w.all;
            every = w.every;
            count = w.count;
            stored = w.stored;
            inside = omega (arith, z, line_within);
            numbers = w.numbers;
            put = w.put;
          }

      -- a row
      module _ (t : get_or s at 0 ≡ TAB) where
        abbrev row_of : Cells
        row_of = cells_of ts j (cells_at s at)

        line : Chained j (row_read ts j at (cells_at s at)) (λ d. read_lines true ts d (lines_from s (suc (line_end s at)))) w.others w.left
        line = chained j (row_read ts j at (cells_at s at)) (λ d. read_lines true ts d (lines_from s (suc (line_end s at)))) w.others w.left (sym (row_reads s at h w.behind ts j t) ∙ w.rest)

        row_is : (length (cells_at s at) ≡ length ts) × (row_of ≡ got line.cells line.bytes)
        row_is = row_got ts j at (cells_at s at) line.cells line.bytes line.same

        row_length : length line.cells ≡ n
        row_length = cells_count ts j (cells_at s at) line.cells line.bytes row_is.1 row_is.0 ∙ types_long types n a

        pub row_due : length (cells_at s at) ≡ n
        row_due = row_is.0 ∙ types_long types n a

        row_room : 3 * (i + length line.cells) ≤ length table
        row_room =
            let c = ap length w.all ∙ length-append w.cells w.others in
            let d = ap length line.all ∙ length-append line.cells line.others in
            omega (arith, f.room, c, d, w.count, spread_table)

        pub row_fits : Fits row_of i j table store
        row_fits =
            let b = ap length w.every ∙ length-append w.bytes w.left in
            let e = ap length line.every ∙ length-append line.bytes line.rest in
            record {
              cells = line.cells;
              bytes = line.bytes;
              same = row_is.1;
              room = row_room;
              long = omega (arith, f.long, b, e, w.stored, spread_store);
              short = omega (arith, f.short, b, e, w.stored);
            }

        pub rows_few : 3 * (i + n) ≤ length table₀
        rows_few = omega (arith, row_room, row_length, spread_table)

        pub spread_more : (end count : ℕ) (t' s' : List ℕ) → (end ≡ line_end s at) × ((count ≡ j + length (bytes_in row_of)) × ((t' ≡ sets table (3 * i) (flat (cells_in row_of))) × (s' ≡ sets store j (bytes_in row_of))))
            → Spreading s ts m f.cells f.bytes table₀ store₀ (end + 1) (i + n) count t' s'
        spread_more end count t' s' (ue, (uc, (ut, us))) =
            let x = line in
            let lc : cells_in row_of ≡ x.cells = ap cells_in row_is.1 in
            let lb : bytes_in row_of ≡ x.bytes = ap bytes_in row_is.1 in
            let z : end + 1 ≡ suc (line_end s at) = omega (arith, ue) in
            let u : count ≡ j + length x.bytes = uc ∙ ap (λ (l : List ℕ). j + length l) lb in
            record {
              behind = true;
              cells = w.cells ++ x.cells;
              bytes = w.bytes ++ x.bytes;
              others = x.others;
              left = x.rest;
              rest = (λ y. read_lines true ts (u y) (lines_from s (z y))) ∙ x.behind;
              all = w.all ∙ ap (λ (y : List Cell). w.cells ++ y) x.all ∙ sym (append_assoc w.cells x.cells x.others);
              every = w.every ∙ ap (λ (y : List ℕ). w.bytes ++ y) x.every ∙ sym (append_assoc w.bytes x.bytes x.rest);
              count = omega (arith, w.count, row_length, length-append w.cells x.cells);
              stored = omega (arith, u, w.stored, length-append w.bytes x.bytes);
              inside = omega (arith, z, line_within);
              numbers = ut ∙ (λ y. sets (w.numbers y) (3 * i) (flat (lc y))) ∙ sets_append (flat w.cells) (flat x.cells) table₀ 0 (3 * i) (omega (arith, flat_length w.cells, w.count))
                  ∙ ap (sets table₀ 0) (sym (flat_append w.cells x.cells));
              put = us ∙ (λ y. sets (w.put y) j (lb y)) ∙ sets_append w.bytes x.bytes store₀ m j (sym w.stored);
            }
