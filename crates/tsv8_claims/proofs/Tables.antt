-- Tables of whole rows, put behind one another; and each of some cells.
-- Assumes nothing.
use Prim.Native.Nat.{ℕ, suc, ◌+◌, ◌*◌, ◌-◌, ◌≤◌, ◌<◌}
use native.Mathlib.Nat.{zero-mul, suc-mul, zero-add, add-mul}
use mathlib.Core.List.{List, [], ◌∷◌, ◌++◌}
use mathlib.Core.Path.{◌≡◌, sym, ap, subst, ◌∙◌}
use native.Mathlib.Omega.{arith}
use lib.Dec.{ltb}
use lib.ListN.{length, get_or, length-append, get_or-append}
use lib.Seq.{get_or-append-add}
use borrow.Author.Tests.{ltb-true, ltb-false}
use Rattle.prelude.proofs.Cases.{split}
use Rattle.tsv8_cells.specs.Parts.{Part}
use Rattle.tsv8_cells.specs.declared.columns.ColumnType.{ColumnType}
use Rattle.tsv8_cells.specs.declared.columns.ColumnType.TheVariants.{Str as strs}
use Rattle.tsv8_cells.specs.Cells.{Cell, cell}
use Rattle.tsv8_claims.specs.Claims.{Each, Table, OneForOne}

pub each_append : (P : Cell → Type 0) (cs ds : List Cell) → Each P cs → Each P ds → Each P (cs ++ ds)
each_append P [] ds a b = b
each_append P (c ∷ cs) ds a b = (a.0, each_append P cs ds a.1 b)

pub each_map : (P Q : Cell → Type 0) → ((c : Cell) → P c → Q c) → (cs : List Cell) → Each P cs → Each Q cs
each_map P Q f [] a = tt
each_map P Q f (c ∷ cs) a = (f c a.0, each_map P Q f cs a.1)

pub for_append : (P : Part → Cell → Type 0) (ps qs : List Part) (cs ds : List Cell) → OneForOne P ps cs → OneForOne P qs ds
    → OneForOne P (ps ++ qs) (cs ++ ds)
for_append P [] qs [] ds a b = b
for_append P [] qs (c ∷ cs) ds a b = absurd a
for_append P (p ∷ ps) qs [] ds a b = absurd a
for_append P (p ∷ ps) qs (c ∷ cs) ds a b = (a.0, for_append P ps qs cs ds a.1 b)

pub table_map : (P Q : ColumnType → Cell → Type 0) → ((t : ColumnType) (c : Cell) → P t c → Q t c) → (ts : List ColumnType) (cs : List Cell)
    → Table P ts cs → Table Q ts cs
table_map P Q f ts cs x =
    record { rows = x.rows; whole = x.whole; each = λ row column h g. f _ _ (x.each row column h g) }

-- tables behind one another
module _ (P : ColumnType → Cell → Type 0) (ts : List ColumnType) where
  abbrev pub no_rows : Table P ts []
  no_rows = record { rows = 0; whole = sym (zero-mul (length ts)); each = λ row column h g. absurd (omega (arith, h)) }

  abbrev pub one-row : (cs : List Cell) → length cs ≡ length ts
      → ((column : ℕ) → column < length ts → P (get_or ts column strs) (get_or cs column (cell 0 0 0))) → Table P ts cs
  one-row cs e f =
      record {
        rows = 1;
        whole = omega (arith, e);
        each =
            λ row column h g. let z : row ≡ 0 = omega (arith, h) in
            let i : row * length ts + column ≡ column = rw z (ap (λ (n : ℕ). n + column) (zero-mul (length ts)) ∙ zero-add column) in
            rw i (f column g);
      }

  -- the cell of a row of the first, and of the second
  front_at : (cs ds : List Cell) (k row column : ℕ) → length cs ≡ k * length ts → row < k → column < length ts
      → get_or (cs ++ ds) (row * length ts + column) (cell 0 0 0) ≡ get_or cs (row * length ts + column) (cell 0 0 0)
  front_at cs ds k row column e h g =
      let n : ℕ = k - suc row in
      let d : k ≡ row + suc n = omega arith in
      let l : length cs ≡ row * length ts + suc n * length ts = e ∙ ap (λ (j : ℕ). j * length ts) d ∙ add-mul row (suc n) (length ts) in
      get_or-append cs ds (cell 0 0 0) (row * length ts + column) (omega (arith, l, suc-mul n (length ts)))

  behind_at : (cs ds : List Cell) (k row column : ℕ) → length cs ≡ k * length ts
      → get_or (cs ++ ds) ((k + row) * length ts + column) (cell 0 0 0) ≡ get_or ds (row * length ts + column) (cell 0 0 0)
  behind_at cs ds k row column e =
      let i : (k + row) * length ts + column ≡ length cs + (row * length ts + column) = omega (arith, e, add-mul k row (length ts)) in
      ap (λ (j : ℕ). get_or (cs ++ ds) j (cell 0 0 0)) i ∙ get_or-append-add cs ds (row * length ts + column) (cell 0 0 0)

  module _ (cs ds : List Cell) (x : Table P ts cs) (y : Table P ts ds) where
    pub each_row : (row column : ℕ) → row < x.rows + y.rows → column < length ts
        → P (get_or ts column strs) (get_or (cs ++ ds) (row * length ts + column) (cell 0 0 0))
    each_row row column h g =
        split (ltb row x.rows)
        (λ b. let l : row < x.rows = ltb-true row x.rows b in
        rw (front_at cs ds x.rows row column x.whole l g) (x.each row column l g))
        (λ b. let l : x.rows ≤ row = ltb-false row x.rows b in
        let n : ℕ = row - x.rows in
        let d : x.rows + n ≡ row = omega arith in
        subst (λ (j : ℕ). P (get_or ts column strs) (get_or (cs ++ ds) (j * length ts + column) (cell 0 0 0))) d
        (rw (behind_at cs ds x.rows n column x.whole) (y.each n column (omega arith) g)))

    abbrev pub both : Table P ts (cs ++ ds)
    both =
        record {
          rows = x.rows + y.rows;
          whole = length-append cs ds ∙ (λ i. x.whole i + y.whole i) ∙ sym (add-mul x.rows y.rows (length ts));
          each = each_row;
        }
