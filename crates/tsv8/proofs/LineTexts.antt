-- A line after the first, by the byte that it begins with; and all lines, one behind another.
-- Assumes nothing.
use Prim.Native.Nat.{ℕ, suc, ◌+◌, ◌-◌, ◌≤◌, ◌<◌}
use mathlib.Core.Bool.{Bool, true, false}
use mathlib.Core.List.{List, [], ◌∷◌, ◌++◌}
use mathlib.Core.Path.{◌≡◌, refl, sym, ap, subst, ◌∙◌}
use native.Mathlib.Nat.{add-zero}
use native.Mathlib.Numerals.{add-one}
use native.Mathlib.Omega.{arith}
use borrow.Author.Tests.{eq-eqb, ne_eqb, eqb-true, eqb-false, lt-ltb}
use lib.Dec.{eqb, ltb}
use lib.ListN.{length, get_or, take, drop, length-drop, length-append}
use lib.Seq.{drop-cons, drop-drop}
use Rattle.std.specs.Prelude.{Ok, Err}
use Rattle.prelude.specs.declared.refusals.Refusal.{Refusal}
use Rattle.prelude.specs.declared.refusals.Refused.{Refused}
use Rattle.prelude.specs.Bytes.{TAB, LF}
use Rattle.prelude.specs.Pick.{pick}
use Rattle.prelude.specs.Refusals.{bad_header, bad_line, refused_at}
use Rattle.prelude.proofs.Cases.{split, never}
use Rattle.line_ends.specs.inner.Ends.{line_run}
use Rattle.line_ends.proofs.Ends.{run_on, run_lf, run_within}
use Rattle.tokens.specs.Words.{same_bytes}
use Rattle.tsv8.specs.declared.rows.Row.{Row}
use Rattle.tsv8.specs.declared.rows.Line.{Line as LineOut}
use Rattle.tsv8.specs.declared.rows.Line.TheVariants.{Skipped, Read}
use Rattle.tsv8_cells.specs.Parts.{Part, part, Line, line_of, divided, is_gap, is_ignored}
use Rattle.tsv8_cells.specs.declared.columns.ColumnType.{ColumnType}
use Rattle.tsv8_cells.specs.Cells.{Cell, Cells, got, refused, more, chain, cells_of}
use Rattle.tsv8.specs.Lines.{LineSort, row, typing, other, stray, type_mark, sort_of, line_by, read_line, is_row, read_lines}
use Rattle.tsv8_cells.specs.inner.Runs.{cell_run, gap_run, line_at, line_end, cells_at, lines_from}
use Rattle.tsv8.specs.inner.Rows.{row_read, RowGot, RowTold, LineSkipped, LineGot, LineTold, LinesTold}
use Rattle.tsv8_cells.proofs.Places.{cell_on, cell_tab, cell_line, line_on, gap_over, gap_not, first_at, cells_on, lines_skip, lines_line, lines_none}
use Rattle.tsv8.proofs.RowTexts.{more_more, more_none, more_got}

begins : (x : ℕ) (r : List ℕ) → is_gap x ≡ false → is_ignored (x ∷ r) ≡ false
unfolding is_ignored pick
begins x r e = rw e

stray_sort : (x : ℕ) (r : List ℕ) → (x ≡ 0x21 → ⊥) → sort_of (x ∷ r) ≡ stray
unfolding sort_of pick
stray_sort x r ne = rw (ne_eqb x 0x21 ne)

note_sort : (x : ℕ) (r : List ℕ) → x ≡ 0x21 → sort_of (x ∷ r) ≡ pick (same_bytes (x ∷ r) type_mark) typing other
unfolding sort_of pick
note_sort x r e = rw (eq-eqb x 0x21 e)

no_first : sort_of [] ≡ row
unfolding sort_of
no_first = refl

both : (y : Bool) (c : Cells) → pick y c c ≡ c
unfolding pick
both true c = refl
both false c = refl

note_gap : (x : ℕ) → x ≡ 0x21 → is_gap x ≡ false
unfolding is_gap pick
note_gap x e = rw e

tab_gap : (x : ℕ) → x ≡ TAB → is_gap x ≡ false
unfolding is_gap pick
tab_gap x e = rw e

behind_data : (y : Bool) (ts : List ColumnType) (m : ℕ) (l : Line) → line_by (pick y typing other) true ts m l ≡ refused bad_line l.place
unfolding pick
behind_data true ts m l = refl
behind_data false ts m l = refl

sort_no_row : (x : ℕ) (r : List ℕ) → sort_of (x ∷ r) ≡ row → ⊥
unfolding sort_of pick
sort_no_row x r e =
    split (eqb x 0x21)
    (λ a. split (same_bytes (x ∷ r) type_mark) (λ b. never (let z : typing ≡ row = sym (rw (a, b)) ∙ e in cc)) (λ b. never (let z : other ≡ row = sym (rw (a, b)) ∙ e in cc)))
    (λ a. never (let z : stray ≡ row = sym (rw a) ∙ e in cc))

skip_by : (c : Bool) (u : LineSort) (behind : Bool) (ts : List ColumnType) (m : ℕ) (l : Line) (go : ℕ → Cells) (cs : List Cell) (bs : List ℕ) → (u ≡ row → ⊥)
    → chain m (pick c (line_by u behind ts m l) (refused bad_line l.place)) go ≡ got cs bs → go m ≡ got cs bs
unfolding pick
skip_by false u behind ts m l go cs bs n e = never cc
skip_by true row behind ts m l go cs bs n e = absurd (n refl)
skip_by true typing true ts m l go cs bs n e = never cc
skip_by true typing false ts m l go cs bs n e = never cc
skip_by true stray behind ts m l go cs bs n e = never cc
skip_by true other true ts m l go cs bs n e = never cc
skip_by true other false ts m l go cs bs n e = ap go (sym (add-zero m)) ∙ sym (more_none (go (m + 0))) ∙ e

-- a row without a fault has as many cells as are due
pub row_got : (ts : List ColumnType) (m p : ℕ) (ps : List Part) (cs : List Cell) (bs : List ℕ) → row_read ts m p ps ≡ got cs bs
    → (length ps ≡ length ts) × (cells_of ts m ps ≡ got cs bs)
unfolding row_read pick
row_got ts m p ps cs bs e =
    split (eqb (length ps) (length ts)) (λ q. (eqb-true (length ps) (length ts) q, sym (rw q) ∙ e))
    (λ q. never (let z : refused bad_line p ≡ got cs bs = sym (rw q) ∙ e in cc))

as_read : (s : List ℕ) (at : ℕ) (ts : List ColumnType) (m : ℕ)
    → pick (eqb (length (cells_at s at)) (length ts)) (line_by row true ts m (line_of (part at (line_at s at)))) (refused bad_line at) ≡ row_read ts m at (cells_at s at)
unfolding row_read cells_at
as_read s at ts m = refl

module _ (s : List ℕ) (at : ℕ) (h : at < length s) where
  abbrev x : ℕ
  x = get_or s at 0

  module _ (l : x ≡ LF → ⊥) where
    line_run_lem : line_run (drop at s) ≡ suc (line_run (drop (suc at) s))
    line_run_lem = rw (drop-cons s at 0 h) (run_on x (drop (suc at) s) (ne_eqb x LF l))

    line_begins : line_at s at ≡ x ∷ take (line_run (drop (suc at) s)) (drop (suc at) s)
    line_begins = ap (λ (n : ℕ). take n (drop at s)) line_run_lem ∙ ap (take (suc (line_run (drop (suc at) s)))) (drop-cons s at 0 h)

    pub line_stays : is_gap x ≡ false → is_ignored (line_at s at) ≡ false
    line_stays g = ap is_ignored line_begins ∙ begins x (take (line_run (drop (suc at) s)) (drop (suc at) s)) g

    pub first_begins : (x ≡ TAB → ⊥) → (divided TAB at (line_at s at)).first ≡ x ∷ take (cell_run (drop (suc at) s)) (drop (suc at) s)
    first_begins t =
        let n : cell_run (drop at s) ≡ suc (cell_run (drop (suc at) s)) = rw (drop-cons s at 0 h) (cell_on x (drop (suc at) s) (ne_eqb x TAB t) (ne_eqb x LF l)) in
        first_at s at ∙ ap (λ (k : ℕ). take k (drop at s)) n ∙ ap (take (suc (cell_run (drop (suc at) s)))) (drop-cons s at 0 h)

  pub first_none : x ≡ TAB → (divided TAB at (line_at s at)).first ≡ []
  first_none t =
      let n : cell_run (drop at s) ≡ 0 = rw (drop-cons s at 0 h) (cell_tab x (drop (suc at) s) (eq-eqb x TAB t)) in
      first_at s at ∙ ap (λ (k : ℕ). take k (drop at s)) n

  not_ended : is_ignored (line_at s at) ≡ false → x ≡ LF → ⊥
  unfolding is_ignored
  not_ended e l =
      let z : line_run (drop at s) ≡ 0 = rw (drop-cons s at 0 h) (run_lf x (drop (suc at) s) (eq-eqb x LF l)) in
      never (let y : true ≡ false = sym (ap (λ (n : ℕ). is_ignored (take n (drop at s))) z) ∙ e in cc)

  module _ (behind : Bool) (ts : List ColumnType) (m : ℕ) where
    abbrev rest : List Line
    rest = lines_from s (suc (line_end s at))

    abbrev first : List ℕ
    first = (divided TAB at (line_at s at)).first

    -- a line that isn't ignored
    line_is : is_ignored (line_at s at) ≡ false
        → read_lines behind ts m (lines_from s at) ≡ chain m (read_line behind ts m (line_of (part at (line_at s at)))) (λ d. read_lines (is_row (sort_of first)) ts d rest)
    unfolding read_lines
    line_is e = ap (read_lines behind ts m) (lines_line s at e)

    line_by_lem : read_line behind ts m (line_of (part at (line_at s at)))
        ≡ pick (eqb (length (cells_at s at)) (length ts)) (line_by (sort_of first) behind ts m (line_of (part at (line_at s at)))) (refused bad_line at)
    unfolding read_line cells_at
    line_by_lem = refl

    -- one that is refused whatever its count
    refused_line : is_ignored (line_at s at) ≡ false → (refusal : Refusal) → read_line behind ts m (line_of (part at (line_at s at))) ≡ refused refusal at
        → read_lines behind ts m (lines_from s at) ≡ refused refusal at
    refused_line e refusal q = line_is e ∙ ap (λ (o : Cells). chain m o (λ d. read_lines (is_row (sort_of first)) ts d rest)) q

    -- begun by neither tab nor `!`
    module _ (t : x ≡ TAB → ⊥) (b : x ≡ 0x21 → ⊥) (n e : ℕ) (ee : e ≡ at + gap_run (drop at s)) (o : Bool) (eo : o ≡ eqb (line_run (drop e s)) 0) where
      there : drop e s ≡ drop (gap_run (drop at s)) (drop at s)
      there = ap (λ (k : ℕ). drop k s) ee ∙ sym (drop-drop (gap_run (drop at s)) at s)

      pub gap_skipped : o ≡ true → LineTold s behind ts m at n (Ok (Skipped e))
      gap_skipped q =
          let g = gap_over (drop at s) (ap line_run (sym there) ∙ eqb-true _ _ (sym eo ∙ q)) in
          let z : line_end s at ≡ e = omega (arith, g.1) in
          record { so = record { ends = sym z; same = ap (read_lines behind ts m) (lines_skip s at g.0 ∙ ap (λ (k : ℕ). lines_from s (suc k)) z) } }

      pub gap_stray : o ≡ false → (f : Refused) → f ≡ refused_at bad_line at → LineTold s behind ts m at n (Err f)
      gap_stray q f ef =
          let i : is_ignored (line_at s at) ≡ false = gap_not (drop at s) (λ z. eqb-false _ _ (sym eo ∙ q) (ap line_run there ∙ z)) in
          rw ef record { so = refused_line i bad_line (line_by_lem ∙ stray_by (eqb (length (cells_at s at)) (length ts)) (first_begins (not_ended i) t)) }
        where
          stray_by : (y : Bool) → first ≡ x ∷ take (cell_run (drop (suc at) s)) (drop (suc at) s)
              → pick y (line_by (sort_of first) behind ts m (line_of (part at (line_at s at)))) (refused bad_line at) ≡ refused bad_line at
          stray_by y f =
              ap (λ (u : LineSort). pick y (line_by u behind ts m (line_of (part at (line_at s at)))) (refused bad_line at)) (ap sort_of f ∙ stray_sort x (take (cell_run (drop (suc at) s)) (drop (suc at) s)) b)
              ∙ both y (refused bad_line at)

    -- begun by `!`
    module _ (b : x ≡ 0x21) (q : ℕ) (eq : q ≡ at + cell_run (drop at s)) (c n : ℕ) (ec : c ≡ length (cells_at s q)) (l : length ts ≡ n) where
      no_lf : x ≡ LF → ⊥
      no_lf z = omega (arith, b, z)

      no_tab : x ≡ TAB → ⊥
      no_tab z = omega (arith, b, z)

      stays : is_ignored (line_at s at) ≡ false
      stays = line_stays no_lf (note_gap x b)

      count_is : length (cells_at s at) ≡ c
      count_is = ap length (cells_on s at ∙ ap (cells_at s) (sym eq)) ∙ sym ec

      sort_is : sort_of first ≡ pick (same_bytes first type_mark) typing other
      sort_is =
          let f = first_begins no_lf no_tab in
          ap sort_of f ∙ note_sort x (take (cell_run (drop (suc at) s)) (drop (suc at) s)) b ∙ ap (λ (u : List ℕ). pick (same_bytes u type_mark) typing other) (sym f)

      pub note_count : (c ≡ n → ⊥) → (f : Refused) → f ≡ refused_at bad_line at → LineTold s behind ts m at n (Err f)
      unfolding pick
      note_count ne f ef = rw ef record { so = refused_line stays bad_line (line_by_lem ∙ rw (ne_eqb (length (cells_at s at)) (length ts) (λ z. ne (sym count_is ∙ z ∙ l)))) }

      module _ (ce : c ≡ n) where
        counted : read_line behind ts m (line_of (part at (line_at s at))) ≡ line_by (sort_of first) behind ts m (line_of (part at (line_at s at)))
        unfolding pick
        counted = line_by_lem ∙ rw (eq-eqb (length (cells_at s at)) (length ts) (count_is ∙ ce ∙ sym l))

        pub note_behind : behind ≡ true → (f : Refused) → f ≡ refused_at bad_line at → LineTold s behind ts m at n (Err f)
        note_behind z f ef =
            rw ef record { so = refused_line stays bad_line (counted ∙ rw (z, sort_is) (behind_data (same_bytes first type_mark) ts m (line_of (part at (line_at s at))))) }

        module _ (z : behind ≡ false) (d : Bool) (ed : d ≡ same_bytes (take (q - at) (drop at s)) type_mark) where
          first_is : first ≡ take (q - at) (drop at s)
          first_is = first_at s at ∙ ap (λ (k : ℕ). take k (drop at s)) (let y : cell_run (drop at s) ≡ q - at = omega (arith, eq) in y)

          mark_is : same_bytes first type_mark ≡ d
          mark_is = ap (λ (u : List ℕ). same_bytes u type_mark) first_is ∙ sym ed

          pub note_typing : d ≡ true → (f : Refused) → f ≡ refused_at bad_header at → LineTold s behind ts m at n (Err f)
          unfolding pick
          note_typing y f ef = rw ef record { so = refused_line stays bad_header (counted ∙ rw (z, sort_is, mark_is ∙ y)) }

          pub note_other : (e : ℕ) → d ≡ false → e ≡ q + line_run (drop q s) → LineTold s behind ts m at n (Ok (Skipped e))
          unfolding pick
          note_other e y ee =
              let w : line_end s at ≡ e =
              (let r : line_run (drop at s) ≡ cell_run (drop at s) + line_run (drop (cell_run (drop at s)) (drop at s)) = line_on (drop at s) (cell_run (drop at s)) (cell_line (drop at s)) in
              omega (arith, r, eq, ee, ap line_run (drop-drop (cell_run (drop at s)) at s ∙ ap (λ (k : ℕ). drop k s) (sym eq)))) in
              let g : read_line behind ts m (line_of (part at (line_at s at))) ≡ got [] [] = counted ∙ rw (z, sort_is, mark_is ∙ y) in
              let u : is_row (sort_of first) ≡ behind = rw (sort_is, mark_is ∙ y, z) in
              record {
                so = record {
                  ends = sym w;
                  same =
                      line_is stays ∙ ap (λ (o : Cells). chain m o (λ d. read_lines (is_row (sort_of first)) ts d rest)) g
                      ∙ more_none (read_lines (is_row (sort_of first)) ts (m + 0) rest)
                      ∙ (λ i. read_lines (u i) ts (add-zero m i) (lines_from s (suc (w i))));
                };
              }

    -- lines without a fault: one that isn't a row gives nothing
    pub skip_got : (x ≡ TAB → ⊥) → (cs : List Cell) (bs : List ℕ) → read_lines behind ts m (lines_from s at) ≡ got cs bs
        → (b : Bool) × (read_lines b ts m rest ≡ got cs bs)
    skip_got t cs bs g =
        split (is_ignored (line_at s at)) (λ e. (behind, sym (ap (read_lines behind ts m) (lines_skip s at e)) ∙ g))
        (λ e. let f = first_begins (not_ended e) t in (
          is_row (sort_of first),
          skip_by (eqb (length (cells_at s at)) (length ts)) (sort_of first) behind ts m (line_of (part at (line_at s at))) (λ d. read_lines (is_row (sort_of first)) ts d rest) cs bs
              (λ z. sort_no_row x (take (cell_run (drop (suc at) s)) (drop (suc at) s)) (sym (ap sort_of f) ∙ z))
              (sym (line_is e ∙ ap (λ (o : Cells). chain m o (λ d. read_lines (is_row (sort_of first)) ts d rest)) line_by_lem) ∙ g),
        ))

    pub row_reads : x ≡ TAB → read_lines behind ts m (lines_from s at) ≡ chain m (row_read ts m at (cells_at s at)) (λ d. read_lines true ts d rest)
    row_reads t =
        let o : sort_of first ≡ row = ap sort_of (first_none t) ∙ no_first in
        line_is (line_stays (λ z. omega (arith, t, z)) (tab_gap x t))
        ∙ (λ i. chain m ((line_by_lem ∙ ap (λ (u : LineSort). pick (eqb (length (cells_at s at)) (length ts)) (line_by u behind ts m (line_of (part at (line_at s at)))) (refused bad_line at)) o ∙ as_read s at ts m) i) (λ d. read_lines (is_row (o i)) ts d rest))

    -- begun by a tab
    module _ (t : x ≡ TAB) (n : ℕ) where
      row_stays : is_ignored (line_at s at) ≡ false
      row_stays = line_stays (λ z. omega (arith, t, z)) (tab_gap x t)

      row_is : read_line behind ts m (line_of (part at (line_at s at))) ≡ row_read ts m at (cells_at s at)
      row_is = line_by_lem ∙ ap (λ (u : LineSort). pick (eqb (length (cells_at s at)) (length ts)) (line_by u behind ts m (line_of (part at (line_at s at)))) (refused bad_line at)) (ap sort_of (first_none t) ∙ no_first) ∙ as_row
        where
          as_row : pick (eqb (length (cells_at s at)) (length ts)) (line_by row behind ts m (line_of (part at (line_at s at)))) (refused bad_line at) ≡ row_read ts m at (cells_at s at)
          as_row = as_read s at ts m

      pub row_line : (r : Row) → RowTold (row_read ts m at (cells_at s at)) (line_end s at) at n m (Ok r) → LineTold s behind ts m at n (Ok (Read r))
      row_line r w =
          let g : RowGot (row_read ts m at (cells_at s at)) (line_end s at) at n m r.end r.stored = w.so in
          record {
            so = record {
              cells = g.cells;
              bytes = g.bytes;
              ends = g.ends;
              same =
                  line_is row_stays ∙ ap (λ (o : Cells). chain m o (λ d. read_lines (is_row (sort_of first)) ts d rest)) (row_is ∙ g.same)
                  ∙ ap (more g.cells g.bytes) (λ i. read_lines (is_row (rows i)) ts (sym g.stored i) (lines_from s (suc (sym g.ends i))));
              count = g.count;
              stored = g.stored;
              small = g.small;
              room = g.room;
            };
          }
        where
          rows : sort_of first ≡ row
          rows = ap sort_of (first_none t) ∙ no_first

      pub row_stop : (f : Refused) → RowTold (row_read ts m at (cells_at s at)) (line_end s at) at n m (Err f) → LineTold s behind ts m at n (Err f)
      row_stop f w =
          let g : row_read ts m at (cells_at s at) ≡ refused f.refusal f.place = w.so in
          record { so = line_is row_stays ∙ ap (λ (o : Cells). chain m o (λ d. read_lines (is_row (sort_of first)) ts d rest)) (row_is ∙ g) }

-- all lines: those passed, and the rest
pub record Passing (s : List ℕ) (ts : List ColumnType) (from n m at c j : ℕ) : Type 0 where
  pub cells : List Cell
  pub bytes : List ℕ
  pub same : read_lines false ts m (lines_from s from) ≡ more cells bytes (read_lines (ltb 0 c) ts j (lines_from s at))
  pub count : length cells ≡ c
  pub stored : j ≡ m + length bytes
  pub small : j ≤ at
  pub few : c ≤ at
  pub inside : at ≤ length s + 1

pub passing_none : (s : List ℕ) (ts : List ColumnType) (from n m : ℕ) → from ≤ length s + 1 → m ≤ from → Passing s ts from n m from 0 m
passing_none s ts from n m h l =
    record {
      cells = [];
      bytes = [];
      same = sym (more_none (read_lines false ts m (lines_from s from)));
      count = refl;
      stored = sym (add-zero m);
      small = l;
      few = omega arith;
      inside = h;
    }

line_in_lem : (s : List ℕ) (at e : ℕ) → at < length s → e ≡ line_end s at → (at ≤ e) × (e ≤ length s)
line_in_lem s at e h q = (omega (arith, q), omega (arith, q, run_within (drop at s), length-drop at s))

module _ (s : List ℕ) (ts : List ColumnType) (from n m at c j : ℕ) (w : Passing s ts from n m at c j) where
  pub passing_end : length s ≤ at → LinesTold (length s) (read_lines false ts m (lines_from s from)) m (Ok (record { cells = c; stored = j }))
  unfolding read_lines
  passing_end h =
      record {
        so = record {
          cells = w.cells;
          bytes = w.bytes;
          same = w.same ∙ ap (λ (l : List Line). more w.cells w.bytes (read_lines (ltb 0 c) ts j l)) (lines_none s at h) ∙ more_got w.cells w.bytes;
          count = w.count;
          stored = w.stored;
          short = omega (arith, w.small, w.inside);
        };
      }

  pub passing_stop : (f : Refused) → LineTold s (ltb 0 c) ts j at n (Err f) → LinesTold (length s) (read_lines false ts m (lines_from s from)) m (Err f)
  passing_stop f v =
      let g : read_lines (ltb 0 c) ts j (lines_from s at) ≡ refused f.refusal f.place = v.so in
      record { so = w.same ∙ ap (more w.cells w.bytes) g }

  module _ (h : at < length s) (r : LineOut) (v : LineTold s (ltb 0 c) ts j at n (Ok r)) where
    module _ (e : ℕ) where
      pub passing_skip : r ≡ Skipped e → Passing s ts from n m (e + 1) c j
      passing_skip q =
          let g : LineSkipped s (ltb 0 c) ts j at e = (subst (λ (u : LineOut). LineTold s (ltb 0 c) ts j at n (Ok u)) q v).so in
          let i = line_in_lem s at e h g.ends in
          record {
            cells = w.cells;
            bytes = w.bytes;
            same = w.same ∙ ap (more w.cells w.bytes) (g.same ∙ ap (λ (k : ℕ). read_lines (ltb 0 c) ts j (lines_from s k)) (sym (add-one e)));
            count = w.count;
            stored = w.stored;
            small = omega (arith, w.small, i.0);
            few = omega (arith, w.few, i.0);
            inside = omega (arith, i.1);
          }

      pub skip_in : r ≡ Skipped e → (at ≤ e) × (e ≤ length s)
      skip_in q = let g : LineSkipped s (ltb 0 c) ts j at e = (subst (λ (u : LineOut). LineTold s (ltb 0 c) ts j at n (Ok u)) q v).so in line_in_lem s at e h g.ends

    module _ (o : Row) (q : r ≡ Read o) where
      abbrev e : ℕ
      e = o.end

      abbrev d : ℕ
      d = o.stored

      got_line : LineGot s (ltb 0 c) ts j at n e d
      got_line = (subst (λ (u : LineOut). LineTold s (ltb 0 c) ts j at n (Ok u)) q v).so

      pub read_in : (at + n ≤ e) × ((e ≤ length s) × (c + n ≤ e))
      read_in = let i = line_in_lem s at e h got_line.ends in (got_line.room, (i.1, omega (arith, got_line.room, w.few)))

      pub passing_read : 0 < n → Passing s ts from n m (e + 1) (c + n) d
      passing_read p =
          let g = got_line in
          let i = line_in_lem s at e h g.ends in
          record {
            cells = w.cells ++ g.cells;
            bytes = w.bytes ++ g.bytes;
            same =
                w.same ∙ ap (more w.cells w.bytes) g.same ∙ more_more w.cells g.cells w.bytes g.bytes (read_lines true ts d (lines_from s (suc e)))
                ∙ (λ k. more (w.cells ++ g.cells) (w.bytes ++ g.bytes) (read_lines (sym some k) ts d (lines_from s (sym (add-one e) k))));
            count = omega (arith, w.count, g.count, length-append w.cells g.cells);
            stored = omega (arith, w.stored, g.stored, length-append w.bytes g.bytes);
            small = omega (arith, g.small);
            few = omega (arith, read_in.1.1);
            inside = omega (arith, i.1);
          }
        where
          some : ltb 0 (c + n) ≡ true
          some = lt-ltb 0 (c + n) (omega arith)
