use mathlib.Core.Path.{refl}
use native.Mathlib.Omega.{arith}
use Rattle.tsv8.proofs.RowTexts.{reading_none, row_short, row_long, row_ended, reading_more, row_refused, tab_there}
use Rattle.tsv8.proofs.rows.judge_row.Goals as goal

pub loop-k-init : goal.loop-k-init
loop-k-init c = reading_none _ _ _ _ _ c.requires.1 c.requires.4 c.requires.3

pub returns-then-byte_at-ne9 : goal.returns-then-byte_at-ne9
returns-then-byte_at-ne9 c = row_short _ _ _ _ _ _ _ _ c.loop-k.invariant c.requires.5 _ _ c.byte_at.ensures c.loop-k-test.true c.if-byte_at-ne9.true _ c.at.ensures

pub read-ended-requires : goal.read-ended-requires
read-ended-requires c = (c.requires.0, omega (arith, (tab_there c.args.text.now c.loop-k.q _ c.byte_at.ensures (omega arith)).0))

pub overflow_add-j : goal.overflow_add-j
overflow_add-j c =
    let i = reading_more _ _ _ _ _ _ _ _ c.loop-k.invariant _ _ c.byte_at.ensures (omega arith) c.read-ended.ensures.end c.loop-k-test.true c.requires.5 _ _ _ _ c.read-ended.ensures.told c.in-Ok.is c.stored_by-j.ensures refl in omega (arith, i.small, i.inside, c.requires.0)

pub refuse-requires : goal.refuse-requires
refuse-requires c = (c.requires.1, c.requires.4)

pub returns-in-Err : goal.returns-in-Err
returns-in-Err c =
    row_refused _ _ _ _ _ _ _ _ c.loop-k.invariant _ _ c.byte_at.ensures (omega arith) c.read-ended.ensures.end c.loop-k-test.true c.requires.5 _ _ _ _ c.read-ended.ensures.told c.in-Err.is c.refuse.ensures

pub loop-k-preserved : goal.loop-k-preserved
loop-k-preserved c =
    reading_more _ _ _ _ _ _ _ _ c.loop-k.invariant _ _ c.byte_at.ensures (omega arith) c.read-ended.ensures.end c.loop-k-test.true c.requires.5 _ _ _ _ c.read-ended.ensures.told c.in-Ok.is c.stored_by-j.ensures refl

pub returns-then-byte_at-eq9 : goal.returns-then-byte_at-eq9
returns-then-byte_at-eq9 c = row_long _ _ _ _ _ _ _ _ c.loop-k.invariant c.requires.5 _ _ c.byte_at-2.ensures c.loop-k-test.false c.if-byte_at-eq9.true _ c.at-then-byte_at-eq9.ensures

pub returns : goal.returns
returns c = row_ended _ _ _ _ _ _ _ _ c.loop-k.invariant c.requires.5 _ _ c.byte_at-2.ensures c.loop-k-test.false c.if-byte_at-eq9.false
