-- A tab or LF at a place ends the cell before it (Solid).
use borrow.Author.Tests.{eqb-true}
use Rattle.tsv8_cells.proofs.Solid.{over_tab, over_lf}
use Rattle.tsv8_cells.proofs.simple.is_over.Goals as goal

pub returns-then-x-eq9 : goal.returns-then-x-eq9
returns-then-x-eq9 c = λ t. over_tab c.args.text.now c.args.at _ c.byte_at-x.ensures c.if-x-eq9.true

pub returns : goal.returns
returns c = λ t. over_lf c.args.text.now c.args.at _ c.byte_at-x.ensures (eqb-true _ _ t)
