-- Plain bytes are no tab and no LF, so one behind them ends the cell (Places).
use Rattle.tsv8_cells.proofs.Places.{plain_tab, plain_lf, odd_end}
use Rattle.tsv8_cells.proofs.ends.cell_end.Goals as goal

pub returns-then-x-eq9 : goal.returns-then-x-eq9
returns-then-x-eq9 c = let r = plain_tab _ _ _ c.plains_on-at.ensures _ c.byte_at-x.ensures c.if-x-eq9.true in record { end = r.0; plain = r.1 }

pub returns-then-x-eq10 : goal.returns-then-x-eq10
returns-then-x-eq10 c = let r = plain_lf _ _ _ c.plains_on-at.ensures _ c.byte_at-x.ensures c.if-x-eq10.true in record { end = r.0; plain = r.1 }

pub returns : goal.returns
returns c = let r = odd_end _ _ _ c.plains_on-at.ensures _ c.end_from.ensures in record { end = r.0; plain = r.1 }
