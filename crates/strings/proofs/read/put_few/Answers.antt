-- Each number of bytes that find room is its own way through the stores (FewStored).
use native.Mathlib.Omega.{arith}
use lib.ListN.{length-set}
use Rattle.strings.proofs.FewStored.{stored_none, stored_one, stored_two, stored_three, stored_four}
use Rattle.strings.proofs.read.put_few.Goals as goal

pub returns-then-m-eq0 : goal.returns-then-m-eq0
returns-then-m-eq0 c =
    stored_none c.args.few c.args.out.now c.args.o c.room_for-m.result c.requires c.room_for-m.ensures.0 c.room_for-m.ensures.2 c.room_for-m.ensures.3 c.if-m-eq0.true

pub bounds-out-o : goal.bounds-out-o
bounds-out-o c = omega (arith, c.room_for-m.ensures.1)

pub returns-then-m-eq1 : goal.returns-then-m-eq1
returns-then-m-eq1 c =
    stored_one c.args.few c.args.out.now c.args.o c.room_for-m.result c.requires c.room_for-m.ensures.0 c.room_for-m.ensures.2 c.room_for-m.ensures.3 c.if-m-eq1.true

pub overflow_add-out : goal.overflow_add-out
overflow_add-out c = omega (arith, c.room_for-m.ensures.1)

pub bounds-out-o-2 : goal.bounds-out-o-2
bounds-out-o-2 c = simp length-set (omega (arith, c.room_for-m.ensures.1))

pub returns-then-m-eq2 : goal.returns-then-m-eq2
returns-then-m-eq2 c =
    stored_two c.args.few c.args.out.now c.args.o c.room_for-m.result c.requires c.room_for-m.ensures.0 c.room_for-m.ensures.2 c.room_for-m.ensures.3 c.if-m-eq2.true

pub overflow_add-out-2 : goal.overflow_add-out-2
overflow_add-out-2 c = omega (arith, c.room_for-m.ensures.1)

pub bounds-out-o-3 : goal.bounds-out-o-3
bounds-out-o-3 c = simp length-set (omega (arith, c.room_for-m.ensures.1))

pub returns-then-m-eq3 : goal.returns-then-m-eq3
returns-then-m-eq3 c =
    stored_three c.args.few c.args.out.now c.args.o c.room_for-m.result c.requires c.room_for-m.ensures.0 c.room_for-m.ensures.2 c.room_for-m.ensures.3 c.if-m-eq3.true

pub overflow_add-out-3 : goal.overflow_add-out-3
overflow_add-out-3 c = omega (arith, c.room_for-m.ensures.1)

pub bounds-out-o-4 : goal.bounds-out-o-4
bounds-out-o-4 c = simp length-set (omega (arith, c.room_for-m.ensures.1))

pub returns : goal.returns
returns c =
    stored_four c.args.few c.args.out.now c.args.o c.room_for-m.result c.requires c.room_for-m.ensures.0 c.room_for-m.ensures.2 c.room_for-m.ensures.3 (omega arith)
