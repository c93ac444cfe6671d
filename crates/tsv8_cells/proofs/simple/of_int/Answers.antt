-- What the end tells of the cell (Solid).
use native.Mathlib.Omega.{arith}
use Rattle.tsv8_cells.proofs.Solid.{int_found}
use Rattle.tsv8_cells.proofs.simple.of_int.Goals as goal

pub returns : goal.returns
returns c = λ m. int_found c.args.text.now c.args.q _ m c.in_ok-e.ensures
