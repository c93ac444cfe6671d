-- Each comparison decides one pick of `bool_kind` (Numerals).
use Rattle.tsv8_cells.proofs.Numerals.{bool_no, bool_yes, bool_none}
use Rattle.tsv8_cells.proofs.cells.bool_kind.Goals as goal

pub returns-then-same : goal.returns-then-same
returns-then-same c = bool_no _ _ c.same.ensures c.if-same.true

pub returns-then-same-2 : goal.returns-then-same-2
returns-then-same-2 c = bool_yes _ _ c.same.ensures c.if-same.false _ c.same-2.ensures c.if-same-2.true

pub returns : goal.returns
returns c = bool_none _ _ c.same.ensures c.if-same.false _ c.same-2.ensures c.if-same-2.false
