use native.Mathlib.Omega.{arith}
use Rattle.tsv8_cells.proofs.Places.{count_none, count_more, count_stop, count_end}
use Rattle.tsv8_cells.proofs.ends.tabs.Goals as goal

pub loop-at-init : goal.loop-at-init
loop-at-init c = count_none _ _ c.requires.0 c.requires.1

pub returns-then-text-at-ne9 : goal.returns-then-text-at-ne9
returns-then-text-at-ne9 c = count_stop _ _ _ _ c.loop-at.invariant c.loop-at-test.true c.if-text-at-ne9.true

pub loop-at-preserved : goal.loop-at-preserved
loop-at-preserved c = count_more _ _ _ _ c.loop-at.invariant c.loop-at-test.true (omega arith) _ c.end_from-at.ensures

pub returns : goal.returns
returns c = count_end _ _ _ _ c.loop-at.invariant c.loop-at-test.false
