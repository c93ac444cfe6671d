-- A number token with a tab or LF behind it (Solid).
use native.Mathlib.Omega.{arith}
use Rattle.tsv8_cells.proofs.Solid.{number_cell, number_inside}
use Rattle.tsv8_cells.proofs.simple.float_end.Goals as goal

pub overflow_add-e : goal.overflow_add-e
overflow_add-e c = omega (arith, number_inside c.args.text.now c.args.q c.requires _ c.in_ok-number.ensures)

pub returns-then-is_over : goal.returns-then-is_over
returns-then-is_over c = number_cell c.args.text.now c.args.q c.requires _ c.in_ok-number.ensures (c.is_over.ensures c.if-is_over.true)
