use native.Mathlib.Omega.{arith}
use mathlib.Core.Path.{ap, ◌∙◌}
use Prim.Native.Nat.{◌≤◌}
use lib.ListN.{length, length-set}
use Rattle.strings_write.proofs.Writing.{mark_stuck, begun, escape_moved, escape_stuck, run_inside, run_moved, run_stuck, kept, last}
use Rattle.strings_write.proofs.write.pass.Goals as goal

pub style_of-style-requires : goal.style_of-style-requires
style_of-style-requires c = tt

pub put_mark-first-requires : goal.put_mark-first-requires
put_mark-first-requires c = tt

pub returns-then-room-first : goal.returns-then-room-first
returns-then-room-first c = mark_stuck c.args.form c.args.s.now c.put_mark-first.ensures.0 c.if-room-first.true c.requires c.put_mark-first.ensures.1

pub overflow_sub-cap : goal.overflow_sub-cap
overflow_sub-cap c = omega arith

pub loop-at-init : goal.loop-at-init
loop-at-init c = begun c.args.form c.args.s.now c.put_mark-first.ensures.0 c.if-room-first.false

pub short_run-e-requires : goal.short_run-e-requires
short_run-e-requires c = c.loop-at.invariant.inside

pub bounds-s-at : goal.bounds-s-at
bounds-s-at c = omega arith

pub escape_len-m-requires : goal.escape_len-m-requires
escape_len-m-requires c = tt

pub put_escape-requires : goal.put_escape-requires
put_escape-requires c = tt

pub overflow_sub-cap-then-e-at : goal.overflow_sub-cap-then-e-at
overflow_sub-cap-then-e-at c = omega (arith, c.loop-at.invariant.below)

pub shape_of-out-then-cap-o : goal.shape_of-out-then-cap-o
shape_of-out-then-cap-o c = c.put_escape.auto.out ∙ kept c.loop-at.invariant c.args.out.now c.put_mark-first.ensures.1

pub returns-then-cap-o : goal.returns-then-cap-o
returns-then-cap-o c =
    escape_stuck c.loop-at.invariant c.style_of-style.ensures _ _ c.loop-at-test.true c.short_run-e.ensures c.if-e-at.true c.escape_len-m.ensures c.put_escape.ensures c.args.out.now c.put_mark-first.ensures.1 c.requires c.if-cap-o.true

pub overflow_add-o : goal.overflow_add-o
overflow_add-o c = omega (arith, c.loop-at.invariant.below)

pub overflow_add-at : goal.overflow_add-at
overflow_add-at c = omega arith

pub loop-at-smaller-then-e-at : goal.loop-at-smaller-then-e-at
loop-at-smaller-then-e-at c = omega arith

pub loop-at-preserved-then-e-at : goal.loop-at-preserved-then-e-at
loop-at-preserved-then-e-at c =
    escape_moved c.loop-at.invariant c.style_of-style.ensures _ _ c.loop-at-test.true c.short_run-e.ensures c.if-e-at.true c.escape_len-m.ensures c.put_escape.ensures c.if-cap-o.false

pub overflow_sub-n : goal.overflow_sub-n
overflow_sub-n c = omega (arith, c.short_run-e.ensures)

pub copy_run-requires : goal.copy_run-requires
copy_run-requires c = run_inside c.loop-at.invariant c.style_of-style.ensures _ c.loop-at-test.true c.short_run-e.ensures

pub overflow_sub-cap-else-e-at : goal.overflow_sub-cap-else-e-at
overflow_sub-cap-else-e-at c = omega (arith, c.loop-at.invariant.below)

pub shape_of-out-then-cap-o-2 : goal.shape_of-out-then-cap-o-2
shape_of-out-then-cap-o-2 c = c.copy_run.auto.out ∙ kept c.loop-at.invariant c.args.out.now c.put_mark-first.ensures.1

pub returns-then-cap-o-2 : goal.returns-then-cap-o-2
returns-then-cap-o-2 c =
    run_stuck c.loop-at.invariant c.style_of-style.ensures _ c.loop-at-test.true c.short_run-e.ensures c.copy_run.ensures c.args.out.now c.put_mark-first.ensures.1 c.requires c.if-cap-o-2.true

pub overflow_add-o-else-e-at : goal.overflow_add-o-else-e-at
overflow_add-o-else-e-at c = omega (arith, c.loop-at.invariant.below)

pub loop-at-smaller : goal.loop-at-smaller
loop-at-smaller c = omega (arith, c.short_run-e.ensures, run_inside c.loop-at.invariant c.style_of-style.ensures _ c.loop-at-test.true c.short_run-e.ensures)

pub loop-at-preserved : goal.loop-at-preserved
loop-at-preserved c = run_moved c.loop-at.invariant c.style_of-style.ensures _ c.loop-at-test.true c.short_run-e.ensures c.copy_run.ensures c.if-cap-o-2.false

pub quote_in-requires : goal.quote_in-requires
quote_in-requires c = tt

pub put-requires : goal.put-requires
put-requires c = tt

pub overflow_add-result : goal.overflow_add-result
overflow_add-result c = omega (arith, c.loop-at.invariant.below)

pub shape_of-out : goal.shape_of-out
shape_of-out c = ap length c.put.ensures ∙ simp length-set (kept c.loop-at.invariant c.args.out.now c.put_mark-first.ensures.1)

pub returns : goal.returns
returns c =
    let h : length c.args.s.now ≤ c.loop-at.at = omega arith in
    last c.loop-at.invariant c.args.out.now c.put_mark-first.ensures.1 h (rw c.quote_in.ensures at c.put.ensures)
