-- Each test decides one part of `has_room` (Whole).
use Rattle.tsv8.proofs.Whole.{no_names, no_types, no_cells, by_store}
use Rattle.tsv8.proofs.read.has_room.Goals as goal

pub returns-then-names-n : goal.returns-then-names-n
returns-then-names-n c = no_names _ _ _ _ _ _ _ c.if-names-n.true

pub returns-then-types-n : goal.returns-then-types-n
returns-then-types-n c = no_types _ _ _ _ _ _ _ c.if-names-n.false c.if-types-n.true

pub returns-then-table-cells : goal.returns-then-table-cells
returns-then-table-cells c = no_cells _ _ _ _ _ _ _ c.if-names-n.false c.if-types-n.false c.if-table-cells.true

pub returns : goal.returns
returns c = by_store _ _ _ _ _ _ _ c.if-names-n.false c.if-types-n.false c.if-table-cells.false
