-- A word that names a value with a tab or LF behind it (Solid).
use native.Mathlib.Omega.{arith}
use Rattle.tsv8_cells.proofs.Solid.{named_cell, named_inside}
use Rattle.tsv8_cells.proofs.simple.named_end.Goals as goal

pub overflow_add-q : goal.overflow_add-q
overflow_add-q c = omega (arith, named_inside c.args.text.now c.args.q c.args.x _ c.requires.0 c.in_ok-n.ensures.1)

pub returns-then-is_over : goal.returns-then-is_over
returns-then-is_over c = named_cell c.args.text.now c.args.q c.args.x _ c.requires.0 c.in_ok-n.ensures.1 (c.is_over.ensures c.if-is_over.true)
