use mathlib.Core.Path.{refl}
use native.Mathlib.Omega.{arith}
use Rattle.lines_write.proofs.LineTexts.{judged_all, judged_bad, judged_on}
use Rattle.lines_write.proofs.write.right_records.Goals as goal

pub loop-at-init : goal.loop-at-init
loop-at-init c = record { inside = omega arith; same = refl }

pub right_record-requires : goal.right_record-requires
right_record-requires c = c.loop-at.invariant.inside

pub returns-then-not-right_record : goal.returns-then-not-right_record
returns-then-not-right_record c = judged_bad c.args.s.now c.loop-at.at c.loop-at.invariant c.loop-at-test.true _ c.right_record.ensures (c.if-not-right_record.true)

pub number_at-requires : goal.number_at-requires
number_at-requires c = omega arith

pub overflow_add-at : goal.overflow_add-at
overflow_add-at c = omega (arith, c.number_at.ensures.1)

pub overflow_add-at-in-loop-at : goal.overflow_add-at-in-loop-at
overflow_add-at-in-loop-at c =
    omega (arith, (judged_on c.args.s.now c.loop-at.at c.loop-at.invariant c.loop-at-test.true _ c.right_record.ensures (c.if-not-right_record.false) _ c.number_at.ensures.0).inside)

pub loop-at-smaller : goal.loop-at-smaller
loop-at-smaller c =
    omega (arith, (judged_on c.args.s.now c.loop-at.at c.loop-at.invariant c.loop-at-test.true _ c.right_record.ensures (c.if-not-right_record.false) _ c.number_at.ensures.0).inside)

pub loop-at-preserved : goal.loop-at-preserved
loop-at-preserved c =
    judged_on c.args.s.now c.loop-at.at c.loop-at.invariant c.loop-at-test.true _ c.right_record.ensures (c.if-not-right_record.false) _ c.number_at.ensures.0

pub returns : goal.returns
returns c = judged_all c.args.s.now c.loop-at.at c.loop-at.invariant (omega arith)
