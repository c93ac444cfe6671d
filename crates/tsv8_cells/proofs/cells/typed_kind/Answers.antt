-- The type and the test decide the picks of `typed_kind` (Numerals).
use mathlib.Core.Path.{◌∙◌}
use Rattle.tsv8_cells.proofs.Numerals.{kind_int, kind_no_int, kind_float, kind_no_float}
use Rattle.tsv8_cells.proofs.cells.typed_kind.Goals as goal

pub returns-then-is_int : goal.returns-then-is_int
returns-then-is_int c = rw c.in-Int.is (kind_int _ _ c.is_int.ensures c.if-is_int.true)

pub returns-else-is_int : goal.returns-else-is_int
returns-else-is_int c = rw c.in-Int.is (kind_no_int _ _ c.is_int.ensures c.if-is_int.false)

pub returns-in_err-kind_of-in-Float : goal.returns-in_err-kind_of-in-Float
returns-in_err-kind_of-in-Float c = rw c.in-Float.is (c.from_residual.ensures ∙ kind_no_float _ c.in_err-kind_of-in-Float.ensures)

pub returns-in_ok-kind_of-in-Float : goal.returns-in_ok-kind_of-in-Float
returns-in_ok-kind_of-in-Float c = rw c.in-Float.is (kind_float _ _ c.in_ok-kind_of-in-Float.ensures)
