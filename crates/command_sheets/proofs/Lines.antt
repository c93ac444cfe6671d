-- A line told by the tables as they are left is the line told by the cells: each three numbers are a cell's, and its range is inside.
-- Assumes nothing.
use Prim.Native.Nat.{ℕ, zero, suc, ◌+◌, ◌*◌, ◌/◌, ◌%◌, ◌<◌}
use mathlib.Core.Bool.{Bool, true, false}
use mathlib.Core.List.{List, [], ◌∷◌, ◌++◌}
use mathlib.Core.Logic.{inl, inr}
use mathlib.Core.Path.{◌≡◌, refl, sym, ap, ap₂, subst, ◌∙◌}
use native.Mathlib.Nat.{mod-lt}
use native.Mathlib.Numerals.{unary_clauses}
use native.Mathlib.Omega.{arith}
use borrow.Author.Tests.{eq-eqb, ne_eqb}
use lib.Dec.{eqb}
use lib.ListN.{length, get_or, take, drop, length-drop}
use lib.Seq.{drop-append-le, take-append-le}
use Rattle.prelude.proofs.Picks.{pick_true, pick_false}
use Rattle.tsv8_cells.specs.Cells.{Cell, cell}
use Rattle.tsv8.specs.Answers.{flat}
use Rattle.tsv8_claims.specs.Claims.{Each, InRange, bytes_at, shown}
use Rattle.entries.specs.Entries.{cell_text}
use Rattle.command_outputs.specs.declared.pages.Page.{Page}
use Rattle.command_outputs.specs.Pages.{Added}
use Rattle.command_sheets.specs.Lines.{is_string, line_of, line_at}
use Rattle.command_sheets.specs.inner.Tables.{cell_from, table_line}

each_at : (P : Cell → Type 0) (cs : List Cell) (k : ℕ) → Each P cs → k < length cs → P (get_or cs k (cell 0 0 0))
each_at P [] k p h = absurd (omega arith)
each_at P (c ∷ cs) zero p h = p.0
each_at P (c ∷ cs) (suc k) p h = each_at P cs k p.1 (omega arith)

-- cell k by its numbers
cell_in : (cs : List Cell) (rest : List ℕ) (k : ℕ) → k < length cs → cell_from (flat cs ++ rest) (3 * k) ≡ get_or cs k (cell 0 0 0)
unfolding flat
cell_in [] rest k h = absurd (omega arith)
cell_in (c ∷ cs) rest zero h = refl
cell_in (c ∷ cs) rest (suc k) h = simp unary_clauses (simp unary_clauses at (cell_in cs rest k (omega arith)))

-- bytes behind the store don't count
shown_front : (n : ℕ) (text bs rest : List ℕ) (c : Cell) → InRange n (length bs) c → shown text (bs ++ rest) c ≡ shown text bs c
shown_front n text bs rest c (inl (a, b, h)) =
    let e : eqb c.kind 6 ≡ false = ne_eqb c.kind 6 (λ q. absurd (omega arith)) in
    pick_false _ _ _ e ∙ sym (pick_false _ _ _ e)
shown_front n text bs rest c (inr (q, h)) =
    let e : eqb c.kind 6 ≡ true = eq-eqb c.kind 6 q in
    let a : bytes_at (bs ++ rest) c ≡ bytes_at bs c =
    ap (take c.size) (drop-append-le c.place bs rest (omega arith)) ∙ take-append-le c.size (drop c.place bs) rest (omega (arith, length-drop c.place bs)) in
    pick_true _ _ _ e ∙ a ∙ sym (pick_true _ _ _ e)

module _ (text : List ℕ) (ns cs : List Cell) (bs : List ℕ) (some : 0 < length ns) (p : Each (InRange (length text) (length bs)) ns) (q : Each (InRange (length text) (length bs)) cs) where
  pub line_same : (a b c : List ℕ) (k : ℕ) → k < length cs → table_line (length ns) text (flat ns ++ a) (flat cs ++ b) (bs ++ c) k ≡ line_at text ns cs bs k
  unfolding table_line line_at line_of
  line_same a b c k h =
      let j : k % length ns < length ns = mod-lt k some in
      let name : Cell = get_or ns (k % length ns) (cell 0 0 0) in
      let value : Cell = get_or cs k (cell 0 0 0) in
      ap₂ (λ (x y : Cell). cell_text (k / length ns + 1) (shown text (bs ++ c) x) (is_string y) (shown text (bs ++ c) y)) (cell_in ns a (k % length ns) j) (cell_in cs b k h)
      ∙ ap₂ (λ (x y : List ℕ). cell_text (k / length ns + 1) x (is_string value) y)
      (shown_front (length text) text bs c name (each_at (InRange (length text) (length bs)) ns (k % length ns) p j))
      (shown_front (length text) text bs c value (each_at (InRange (length text) (length bs)) cs k q h))

-- the line of a cell, by its parts as they were found
pub line_told : (columns k : ℕ) (text names cells store : List ℕ) {row column : ℕ} {name value : List ℕ} {quoted : Bool} → row ≡ k / columns + 1 → column ≡ k % columns
    → name ≡ shown text store (cell_from names (3 * column)) → value ≡ shown text store (cell_from cells (3 * k)) → quoted ≡ is_string (cell_from cells (3 * k))
    → {p : Page} {page shown' : List ℕ} {r : Page} {page'' shown'' : List ℕ} → Added p (cell_text row name quoted value) page shown' r page'' shown''
    → Added p (table_line columns text names cells store k) page shown' r page'' shown''
unfolding table_line line_of
line_told columns k text names cells store a b c d e {p} {page} {shown'} {r} {page''} {shown''} x =
    subst (λ (t : List ℕ). Added p t page shown' r page'' shown'')
    (λ i. cell_text (a i) ((c ∙ ap (λ (j : ℕ). shown text store (cell_from names (3 * j))) b) i) (e i) (d i)) x
