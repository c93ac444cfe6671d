-- What the end and the first byte tell of the cell (Solid).
use native.Mathlib.Omega.{arith}
use Rattle.tsv8_cells.proofs.Solid.{true_found, false_found}
use Rattle.tsv8_cells.proofs.simple.of_bool.Goals as goal

pub returns-then-x-eq116 : goal.returns-then-x-eq116
returns-then-x-eq116 c = λ m. true_found c.args.text.now c.args.q _ m _ c.in_ok-e.ensures c.if-x-eq116.true

pub returns-then-x-eq102 : goal.returns-then-x-eq102
returns-then-x-eq102 c = λ m. false_found c.args.text.now c.args.q _ m _ c.in_ok-e.ensures c.if-x-eq102.true
