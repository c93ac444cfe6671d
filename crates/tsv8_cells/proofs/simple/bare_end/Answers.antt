-- Plain bytes without a space at their ends, with a tab or LF behind them (Solid).
use Rattle.tsv8_cells.proofs.Solid.{bare_cell}
use Rattle.tsv8_cells.proofs.simple.bare_end.Goals as goal

pub returns-then-is_over : goal.returns-then-is_over
returns-then-is_over c =
    bare_cell c.args.text.now c.args.q _ c.plains_on-e.ensures c.if-e-q.false c.if-text-q-eq32.false c.if-text-e-eq32.false (c.is_over.ensures c.if-is_over.true)
