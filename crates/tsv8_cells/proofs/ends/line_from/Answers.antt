use native.Mathlib.Omega.{arith}
use Rattle.tsv8_cells.proofs.Places.{left_here, left_end, left_stop, left_more}
use Rattle.tsv8_cells.proofs.ends.line_from.Goals as goal

pub loop-at-init : goal.loop-at-init
loop-at-init c = left_here _ _ c.requires

pub returns-then-not-is_end : goal.returns-then-not-is_end
returns-then-not-is_end c = left_stop _ _ _ c.loop-at.invariant c.loop-at-test.true _ c.gap-e.ensures _ c.is_end.ensures (c.if-not-is_end.true)

pub overflow_add-at : goal.overflow_add-at
overflow_add-at c = omega (arith, (left_more _ _ _ c.loop-at.invariant c.loop-at-test.true _ c.gap-e.ensures _ c.is_end.ensures (c.if-not-is_end.false)).1.0)

pub loop-at-preserved : goal.loop-at-preserved
loop-at-preserved c = left_more _ _ _ c.loop-at.invariant c.loop-at-test.true _ c.gap-e.ensures _ c.is_end.ensures (c.if-not-is_end.false)

pub returns : goal.returns
returns c = left_end _ _ _ c.loop-at.invariant c.loop-at-test.false
