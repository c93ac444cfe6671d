-- How many cells a text can hold: so many rows of each number of columns as its bytes allow, by one test of all numbers of columns.
-- Assumes nothing.
use Prim.Native.Nat.{ℕ, ◌+◌, ◌*◌, ◌-◌, ◌/◌, ◌≤◌}
use native.Mathlib.Nat.{mul-le-mul_right, mul-add, mul-one, le-div_iff_mul-le}
use mathlib.Core.Bool.{Bool}
use mathlib.Core.List.{List, [], ◌∷◌}
use mathlib.Core.Path.{◌≡◌, refl, ap, ◌∙◌}
use native.Mathlib.Omega.{arith}
use lib.Dec.{leb}
use lib.ListN.{length}
use borrow.Author.Tests.{leb-true}
use Rattle.prelude.specs.Limits.{text_max, column_max}
use Rattle.prelude.proofs.Tables.{at_below}
use Rattle.tsv8_cells.specs.Cells.{Cell}
use Rattle.tsv8.specs.Answers.{flat}
use Rattle.tsv8_claims.specs.Claims.{cell_max}

-- the rows of n columns
abbrev rows_of : ℕ → ℕ
rows_of n = (text_max - (5 + 2 * n)) / (2 * n + 1)

abbrev few : ℕ → Bool
few n = leb (rows_of n * n) cell_max

pub cells_most : (n rows : ℕ) → n ≤ column_max → 5 + 2 * n + (rows + 2 * (rows * n)) ≤ text_max → rows * n ≤ cell_max
cells_most n rows h l =
    let a : rows_of n * n ≤ cell_max = leb-true (rows_of n * n) cell_max (at_below few (column_max + 1) refl n (omega arith)) in
    let b : rows * (2 * n + 1) ≡ 2 * (rows * n) + rows = product in
    let c : rows ≤ rows_of n = (le-div_iff_mul-le {k = 2 * n + 1} {x = rows} {y = text_max - (5 + 2 * n)} (omega arith)).1 (omega (arith, b)) in
    let d : rows * n ≤ rows_of n * n = mul-le-mul_right n c in omega arith
  where
    product : rows * (2 * n + 1) ≡ 2 * (rows * n) + rows
    product =
        let e : 2 * n + 1 ≡ n + n + 1 = omega arith in
        ap (λ (k : ℕ). rows * k) e ∙ mul-add rows (n + n) 1 ∙ (let f : rows * (n + n) ≡ rows * n + rows * n = mul-add rows n n in let g : rows * 1 ≡ rows = mul-one rows in omega arith)

pub flat_length : (cs : List Cell) → length (flat cs) ≡ 3 * length cs
unfolding flat
flat_length [] = refl
flat_length (c ∷ cs) = let i : length (flat cs) ≡ 3 * length cs = flat_length cs in omega arith
