use native.Mathlib.Omega.{arith}
use mathlib.Core.Path.{◌∙◌}
use Rattle.lines_write.proofs.LineTexts.{begun, kept, here_right, overfull, moved, filled}
use Rattle.lines_write.proofs.write.pass.Goals as goal

pub loop-at-init : goal.loop-at-init
loop-at-init c = begun _ _ _ c.requires.0

pub put_line-o-requires : goal.put_line-o-requires
put_line-o-requires c = (c.loop-at.invariant.inside, here_right c.loop-at.invariant c.loop-at-test.true, c.requires.1)

pub shape_of-out-then-room-o : goal.shape_of-out-then-room-o
shape_of-out-then-room-o c = c.put_line-o.auto.out ∙ kept c.loop-at.invariant

pub returns-then-room-o : goal.returns-then-room-o
returns-then-room-o c = overfull c.loop-at.invariant c.loop-at-test.true c.put_line-o.ensures c.if-room-o.true

pub number_at-requires : goal.number_at-requires
number_at-requires c = omega arith

pub overflow_add-at : goal.overflow_add-at
overflow_add-at c = omega (arith, c.number_at.ensures.1)

pub overflow_add-at-in-loop-at : goal.overflow_add-at-in-loop-at
overflow_add-at-in-loop-at c = omega (arith, (moved c.loop-at.invariant c.loop-at-test.true c.put_line-o.ensures _ c.number_at.ensures.0).inside)

pub loop-at-smaller : goal.loop-at-smaller
loop-at-smaller c = omega (arith, (moved c.loop-at.invariant c.loop-at-test.true c.put_line-o.ensures _ c.number_at.ensures.0).inside)

pub loop-at-preserved : goal.loop-at-preserved
loop-at-preserved c = moved c.loop-at.invariant c.loop-at-test.true c.put_line-o.ensures _ c.number_at.ensures.0

pub shape_of-out : goal.shape_of-out
shape_of-out c = kept c.loop-at.invariant

pub returns : goal.returns
returns c = filled c.loop-at.invariant (omega arith)
