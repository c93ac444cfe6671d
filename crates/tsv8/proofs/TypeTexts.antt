-- The line of types: each cell's word as a number, stored one behind another.
-- Assumes nothing.
use Prim.Native.Nat.{ℕ, zero, suc, ◌+◌, ◌-◌, ◌≤◌, ◌<◌}
use mathlib.Core.Bool.{Bool, true, false}
use mathlib.Core.List.{List, [], ◌∷◌, ◌++◌, append-nil, append_assoc}
use mathlib.Core.Path.{◌≡◌, refl, sym, ap, ◌∙◌}
use native.Mathlib.Numerals.{add-one}
use native.Mathlib.Omega.{arith}
use borrow.Author.Tests.{eq-eqb, ne_eqb, eqb-true, eqb-false}
use lib.Dec.{eqb}
use lib.ListN.{length, get_or, take, drop, set, length-set}
use lib.Seq.{drop-drop}
use Rattle.std.specs.Prelude.{Option, Some, None, Result, Ok, Err}
use Rattle.prelude.specs.declared.refusals.Refusal.{Refusal}
use Rattle.prelude.specs.declared.refusals.Refused.{Refused}
use Rattle.prelude.specs.Bytes.{TAB}
use Rattle.prelude.specs.Pick.{pick}
use Rattle.prelude.specs.Refusals.{bad_header, refused_at}
use Rattle.prelude.proofs.Cases.{split, never}
use Rattle.prelude.proofs.Picks.{and_no_first, and_no_second, and_yes}
use Rattle.line_ends.specs.inner.Ends.{line_run}
use Rattle.lines.specs.Line.{leads, trimmed, strip}
use Rattle.lines.proofs.LineEnds.{strip_part}
use Rattle.tokens.specs.Words.{same_bytes}
use Rattle.tsv8_cells.specs.Parts.{Part, part, Line, line_of, is_ignored}
use Rattle.tsv8_cells.specs.declared.columns.ColumnType.{ColumnType}
use Rattle.tsv8_cells.specs.declared.columns.ColumnType.TheVariants.{Bool as bools, Int as ints, Float as floats, Str as strs}
use Rattle.tsv8_cells.specs.Types.{type_word, Named, named, unnamed, type_named, Types, types, untyped, and_type, types_in, all_strs}
use Rattle.tsv8_cells.specs.Cells.{Cell}
use Rattle.tsv8.specs.Lines.{type_mark, read_lines}
use Rattle.tsv8.specs.Read.{unread, joined, behind_types, has_types, behind_names}
use Rattle.tsv8_cells.specs.inner.Runs.{cell_run, Starts, line_at, line_end, cells_at, lines_from}
use Rattle.tsv8_cells.specs.inner.Typed.{type_of}
use Rattle.tsv8.specs.inner.Heads.{TypesBy, TypesTold, TypedTold}
use Rattle.tsv8_cells.proofs.Places.{cell_line, line_on, cells_on, cells_tab, cells_none, cell_ended, first_at, lines_line, lines_none}
use Rattle.tsv8.proofs.RowTexts.{tab_there, tab_passes}

-- a word compared with the four
module _ (w : List ℕ) (a : Bool) (ea : a ≡ same_bytes w (type_word bools)) where
  pub named_bool : a ≡ true → Some bools ≡ type_of (type_named w)
  unfolding type_named pick
  named_bool t = rw (sym ea, t)

  module _ (fa : a ≡ false) (b : Bool) (eb : b ≡ same_bytes w (type_word ints)) where
    pub named_int : b ≡ true → Some ints ≡ type_of (type_named w)
    unfolding type_named pick
    named_int t = rw (sym ea, fa, sym eb, t)

    module _ (fb : b ≡ false) (d : Bool) (ed : d ≡ same_bytes w (type_word floats)) where
      pub named_float : d ≡ true → Some floats ≡ type_of (type_named w)
      unfolding type_named pick
      named_float t = rw (sym ea, fa, sym eb, fb, sym ed, t)

      module _ (fd : d ≡ false) (f : Bool) (ef : f ≡ same_bytes w (type_word strs)) where
        pub named_str : f ≡ true → Some strs ≡ type_of (type_named w)
        unfolding type_named pick
        named_str t = rw (sym ea, fa, sym eb, fb, sym ed, fd, sym ef, t)

        pub named_none : f ≡ false → None ≡ type_of (type_named w)
        unfolding type_named pick
        named_none t = rw (sym ea, fa, sym eb, fb, sym ed, fd, sym ef, t)

pub named_part : (c : List ℕ) (a n : ℕ) (ty : Option ColumnType) → a ≡ leads c → n ≡ length (trimmed (take (length c - a) (drop a c)))
    → ty ≡ type_of (type_named (take (a + n - a) (drop a c))) → ty ≡ type_of (type_named (strip c))
named_part c a n ty ea en e = e ∙ ap (λ (w : List ℕ). type_of (type_named w)) (strip_part c a n ea en)

-- types in front of others
abbrev ahead : List ColumnType → Types → Types
ahead ts (types us) = types (ts ++ us)
ahead ts (untyped p) = untyped p

ahead_none : (x : Types) → ahead [] x ≡ x
ahead_none (types us) = refl
ahead_none (untyped p) = refl

ahead_one : (ts : List ColumnType) (t : ColumnType) (p : ℕ) (x : Types) → ahead ts (and_type (named t) p x) ≡ ahead (ts ++ (t ∷ [])) x
ahead_one ts t p (types us) = ap types (sym (append_assoc ts (t ∷ []) us))
ahead_one ts t p (untyped q) = refl

is_named : (v : Named) (t : ColumnType) → Some t ≡ type_of v → v ≡ named t
is_named (named u) t e = let z : t ≡ u = cc in ap named (sym z)
is_named unnamed t e = never (let z : Some t ≡ None = e in cc)

is_unnamed : (v : Named) → None ≡ type_of v → v ≡ unnamed
is_unnamed (named u) e = never (let z : None ≡ Some u = e in cc)
is_unnamed unnamed e = refl

take_set : (l : List ColumnType) (k : ℕ) (t : ColumnType) → k < length l → take (suc k) (set l k t) ≡ take k l ++ (t ∷ [])
take_set [] k t h = absurd (omega arith)
take_set (u ∷ l) zero t h = refl
take_set (u ∷ l) (suc k) t h = ap (λ (r : List ColumnType). u ∷ r) (take_set l k t (omega arith))

types_set : (l : List ColumnType) (k : ℕ) (t : ColumnType) → k < length l → take (k + 1) (set l k t) ≡ take k l ++ (t ∷ [])
types_set l k t h = rw (add-one k) (take_set l k t h)

-- k types are stored
pub record Naming (s : List ℕ) (from n q k : ℕ) (new : List ColumnType) : Type 0 where
  pub same : types_in (cells_at s from) ≡ ahead (take k new) (types_in (cells_at s q))
  pub passed : k + length (cells_at s q) ≡ n
  pub inside : q ≤ length s
  pub starts : Starts s q
  pub ends : line_end s q ≡ line_end s from
  pub long : n ≤ length new
  pub few : k ≤ n

pub naming_none : (s : List ℕ) (from n : ℕ) (new : List ColumnType) → from ≤ length s → Starts s from → length (cells_at s from) ≡ n → n ≤ length new → Naming s from n from 0 new
naming_none s from n new h w e l =
    record {
      same = sym (ahead_none (types_in (cells_at s from)));
      passed = omega (arith, e);
      inside = h;
      starts = w;
      ends = refl;
      long = l;
      few = omega arith;
    }

types_cons : (c : Part) (cs : List Part) → types_in (c ∷ cs) ≡ and_type (type_named (strip c.bytes)) c.place (types_in cs)
unfolding types_in
types_cons c cs = refl

types_nil : types_in [] ≡ types []
unfolding types_in
types_nil = refl

module _ (s : List ℕ) (from n q k : ℕ) (new : List ColumnType) (w : Naming s from n q k new) where
  module _ (h : k < n) where
    -- a tab stands there, as cells are due
    pub tab_due : (q < length s) × (get_or s q 0 ≡ TAB)
    tab_due =
        split (eqb (get_or (drop q s) 0 0) TAB) (λ t. tab_there s q (get_or (drop q s) 0 0) refl (eqb-true (get_or (drop q s) 0 0) TAB t))
        (λ t. let z : length (cells_at s q) ≡ 0 = ap length (cells_none s q w.starts (eqb-false (get_or (drop q s) 0 0) TAB t)).0 in absurd (omega (arith, w.passed, z)))

    module _ (e : ℕ) (ee : e ≡ q + 1 + cell_run (drop (q + 1) s)) where
      on : e ≡ suc q + cell_run (drop (suc q) s)
      on = rw (sym (add-one q)) ee

      pub type_in : (q + 1 ≤ e) × (e ≤ length s)
      type_in = let i = cell_ended s (suc q) e tab_due.0 on in (omega (arith, on), i.0)

      cells_are : cells_at s q ≡ part (q + 1) (take (e - (q + 1)) (drop (q + 1) s)) ∷ cells_at s e
      cells_are =
          let z : e - (q + 1) ≡ cell_run (drop (suc q) s) = omega (arith, on) in
          cells_tab s q tab_due.0 tab_due.1
          ∙ (λ i. part (sym (add-one q) i) (take (sym z i) (drop (sym (add-one q) i) s)) ∷ cells_at s (sym on i))

      types_are : types_in (cells_at s q) ≡ and_type (type_named (strip (take (e - (q + 1)) (drop (q + 1) s)))) (q + 1) (types_in (cells_at s e))
      types_are = ap types_in cells_are ∙ types_cons (part (q + 1) (take (e - (q + 1)) (drop (q + 1) s))) (cells_at s e)

      pub type_unnamed : None ≡ type_of (type_named (strip (take (e - (q + 1)) (drop (q + 1) s)))) → (f : Refused) → f ≡ refused_at bad_header (q + 1)
          → TypesTold (types_in (cells_at s from)) (line_end s from) n new (Err f)
      type_unnamed et f ef =
          rw ef
          record {
            so = (
              w.same ∙ ap (ahead (take k new)) (types_are ∙ ap (λ (v : Named). and_type v (q + 1) (types_in (cells_at s e))) (is_unnamed (type_named (strip (take (e - (q + 1)) (drop (q + 1) s)))) et)),
              refl,
            );
          }

      pub type_named_lem : (ty : ColumnType) → Some ty ≡ type_of (type_named (strip (take (e - (q + 1)) (drop (q + 1) s)))) → Naming s from n e (k + 1) (set new k ty)
      type_named_lem ty et =
          let u = cell_ended s (suc q) e tab_due.0 on in
          record {
            same =
                w.same ∙ ap (ahead (take k new)) (types_are ∙ ap (λ (v : Named). and_type v (q + 1) (types_in (cells_at s e))) (is_named (type_named (strip (take (e - (q + 1)) (drop (q + 1) s)))) ty et))
                ∙ ahead_one (take k new) ty (q + 1) (types_in (cells_at s e))
                ∙ ap (λ (l : List ColumnType). ahead l (types_in (cells_at s e))) (sym (types_set new k ty (omega (arith, w.long))));
            passed = (let l : length (cells_at s q) ≡ suc (length (cells_at s e)) = ap length cells_are in omega (arith, w.passed, l));
            inside = u.0;
            starts = u.1;
            ends = line_end_lem ∙ w.ends;
            long = omega (arith, w.long, length-set new k ty);
            few = omega arith;
          }
        where
          line_end_lem : line_end s e ≡ line_end s q
          line_end_lem =
              let r : line_run (drop q s) ≡ e - q + line_run (drop (e - q) (drop q s)) = line_on (drop q s) (e - q) (tab_passes s q e tab_due.0 tab_due.1 on) in
              let z : q + (e - q) ≡ e = omega (arith, on) in
              omega (arith, r, on, ap line_run (drop-drop (e - q) q s ∙ ap (λ (i : ℕ). drop i s) z))

  pub types_named : n ≤ k → TypesTold (types_in (cells_at s from)) (line_end s from) n new (Ok (q + 1))
  types_named h =
      let z : n ≡ k = omega (arith, w.few) in
      let l : length (cells_at s q) ≡ 0 = omega (arith, w.passed, z) in
      let c : cells_at s q ≡ [] = empty (cells_at s q) l in
      record {
        so = (
          w.same ∙ ap (λ (x : List Part). ahead (take k new) (types_in x)) c ∙ ap (ahead (take k new)) types_nil
              ∙ ap types (append-nil (take k new)) ∙ ap (λ (i : ℕ). types (take i new)) (sym z),
          (ended (cells_end l), w.long),
        );
      }
    where
      empty : (x : List Part) → length x ≡ 0 → x ≡ []
      empty [] e = refl
      empty (y ∷ x) e = absurd (omega (arith, e))

      cells_end : length (cells_at s q) ≡ 0 → line_run (drop q s) ≡ 0
      cells_end l =
          split (eqb (get_or (drop q s) 0 0) TAB)
          (λ t. let (g, f) = tab_there s q (get_or (drop q s) 0 0) refl (eqb-true (get_or (drop q s) 0 0) TAB t) in
          let y : length (cells_at s q) ≡ suc (length (cells_at s (suc q + cell_run (drop (suc q) s)))) = ap length (cells_tab s q g f) in
          absurd (omega (arith, l, y)))
          (λ t. (cells_none s q w.starts (eqb-false (get_or (drop q s) 0 0) TAB t)).1)

      ended : line_run (drop q s) ≡ 0 → q + 1 ≡ suc (line_end s from)
      ended y = omega (arith, y, w.ends)

pub cells_of_lem : (s : List ℕ) (at : ℕ) → (line_of (part at (line_at s at))).cells ≡ cells_at s at
unfolding cells_at
cells_of_lem s at = refl

both_have : (l : Line) (n : ℕ) → same_bytes l.first type_mark ≡ true → eqb (length l.cells) n ≡ true → has_types n l ≡ true
unfolding has_types
both_have l n a b = and_yes (same_bytes l.first type_mark) (eqb (length l.cells) n) a b

-- the line behind the names
module _ (s : List ℕ) (at : ℕ) (n : ℕ) (old : List ColumnType) (l : n ≤ length old) (a : take n old ≡ all_strs n) (inside : at ≤ length s + 1)
    (ns : List Cell) (bs : List ℕ) (c : length ns ≡ n) where
  untold : behind_names ns bs (lines_from s at) ≡ behind_types ns bs (lines_from s at) (types (all_strs (length ns))) → TypedTold s at ns bs n old (Ok at)
  untold e =
      record {
        so = record {
          same = e ∙ ap (λ (ts : List ColumnType). joined ns ts bs (read_lines false ts (length bs) (lines_from s at))) (ap all_strs c ∙ sym a);
          onward = omega arith;
          inside = inside;
          long = l;
        };
      }

  none_by : (ls : List Line) → ls ≡ [] → behind_names ns bs ls ≡ behind_types ns bs ls (types (all_strs (length ns)))
  unfolding behind_names
  none_by ls e = rw e

  pub no_line : length s ≤ at → TypedTold s at ns bs n old (Ok at)
  no_line h = untold (none_by (lines_from s at) (lines_none s at h))

  module _ (h : at < length s) (i : at < length s → is_ignored (line_at s at) ≡ false) where
    abbrev rest : List Line
    rest = lines_from s (suc (line_end s at))

    abbrev ln : Line
    ln = line_of (part at (line_at s at))

    lines_are : lines_from s at ≡ ln ∷ rest
    lines_are = lines_line s at (i h)

    untyped_by : (x : Line) (ls : List Line) → has_types (length ns) x ≡ false → behind_names ns bs (x ∷ ls) ≡ behind_types ns bs (x ∷ ls) (types (all_strs (length ns)))
    unfolding behind_names pick
    untyped_by x ls e = rw e

    typed_by : (x : Line) (ls : List Line) → has_types (length ns) x ≡ true → behind_names ns bs (x ∷ ls) ≡ behind_types ns bs ls (types_in x.cells)
    unfolding behind_names pick
    typed_by x ls e = rw e

    other_line : has_types (length ns) ln ≡ false → TypedTold s at ns bs n old (Ok at)
    other_line e = untold (ap (behind_names ns bs) lines_are ∙ untyped_by ln rest e ∙ ap (λ (x : List Line). behind_types ns bs x (types (all_strs (length ns)))) (sym lines_are))

    module _ (q : ℕ) (eq : q ≡ at + cell_run (drop at s)) (d : Bool) (ed : d ≡ same_bytes (take (q - at) (drop at s)) type_mark) where
      mark_is : same_bytes ln.first type_mark ≡ d
      mark_is = ap (λ (u : List ℕ). same_bytes u type_mark) (first_at s at ∙ ap (λ (k : ℕ). take k (drop at s)) (let y : cell_run (drop at s) ≡ q - at = omega (arith, eq) in y)) ∙ sym ed

      cells_is : ln.cells ≡ cells_at s q
      cells_is = line_cells ∙ cells_on s at ∙ ap (cells_at s) (sym eq)
        where
          line_cells : ln.cells ≡ cells_at s at
          line_cells = cells_of_lem s at

      pub no_mark : d ≡ false → TypedTold s at ns bs n old (Ok at)
      unfolding has_types
      no_mark f = other_line (and_no_first (same_bytes ln.first type_mark) (eqb (length ln.cells) (length ns)) (mark_is ∙ f))

      module _ (k : ℕ) (ek : k ≡ length (cells_at s q)) where
        pub no_count : (k ≡ n → ⊥) → TypedTold s at ns bs n old (Ok at)
        unfolding has_types
        no_count f =
            other_line (and_no_second (same_bytes ln.first type_mark) (eqb (length ln.cells) (length ns))
            (ne_eqb (length ln.cells) (length ns) (λ z. f (ek ∙ ap length (sym cells_is) ∙ z ∙ c))))

        pub types_line : d ≡ true → k ≡ n → (new : List ColumnType) (r : Result ℕ Refused) → TypesTold (types_in (cells_at s q)) (line_end s q) n new r → line_end s q ≤ length s
            → TypedTold s at ns bs n new r
        types_line t z new r x g = go r x
          where
            has : has_types (length ns) ln ≡ true
            has = has_types_lem (mark_is ∙ t) (eq-eqb (length ln.cells) (length ns) (ap length cells_is ∙ sym ek ∙ z ∙ sym c))
              where
                has_types_lem : same_bytes ln.first type_mark ≡ true → eqb (length ln.cells) (length ns) ≡ true → has_types (length ns) ln ≡ true
                has_types_lem = both_have ln (length ns)

            names : behind_names ns bs (lines_from s at) ≡ behind_types ns bs rest (types_in (cells_at s q))
            names = ap (behind_names ns bs) lines_are ∙ typed_by ln rest has ∙ ap (λ (u : List Part). behind_types ns bs rest (types_in u)) cells_is

            same_end : line_end s at ≡ line_end s q
            same_end =
                let y : line_run (drop at s) ≡ cell_run (drop at s) + line_run (drop (cell_run (drop at s)) (drop at s)) = line_on (drop at s) (cell_run (drop at s)) (cell_line (drop at s)) in
                omega (arith, y, eq, ap line_run (drop-drop (cell_run (drop at s)) at s ∙ ap (λ (i : ℕ). drop i s) (sym eq)))

            go : (r : Result ℕ Refused) → TypesTold (types_in (cells_at s q)) (line_end s q) n new r → TypedTold s at ns bs n new r
            go (Ok b) v =
                let u : TypesBy (types_in (cells_at s q)) (line_end s q) n new (Ok b) = v.so in
                let y : suc (line_end s at) ≡ b = omega (arith, same_end, u.1.0) in
                record {
                  so = record {
                    same = names ∙ ap (behind_types ns bs rest) u.0
                        ∙ ap (λ (i : ℕ). joined ns (take n new) bs (read_lines false (take n new) (length bs) (lines_from s i))) y;
                    onward = omega (arith, y);
                    inside = omega (arith, y, same_end, g);
                    long = u.1.1;
                  };
                }
            go (Err f) v =
                let u : TypesBy (types_in (cells_at s q)) (line_end s q) n new (Err f) = v.so in
                record { so = names ∙ ap (behind_types ns bs rest) u.0 ∙ ap (λ (x : Refusal). unread x f.place) (sym u.1) }
