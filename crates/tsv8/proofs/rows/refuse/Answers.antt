-- The count decides the pick of `refused_row` (RowTexts).
use native.Mathlib.Omega.{arith}
use Rattle.tsv8.proofs.RowTexts.{refuse_count, refuse_fault}
use Rattle.tsv8.proofs.rows.refuse.Goals as goal

pub returns-then-tabs-n : goal.returns-then-tabs-n
returns-then-tabs-n c = refuse_count _ _ _ _ _ c.tabs.ensures c.if-tabs-n.true _ c.at.ensures

pub returns : goal.returns
returns c = refuse_fault _ _ _ _ _ c.tabs.ensures (omega arith)
