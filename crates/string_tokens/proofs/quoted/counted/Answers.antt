use native.Mathlib.Omega.{arith}
use lib.ListN.{drop}
use Rattle.string_tokens.proofs.Counting.{begun, takes_inside, counted_on, over_plains, took_takes, took_less, ok_is, closed, failed}
use Rattle.string_tokens.proofs.quoted.counted.Goals as goal

pub loop-size-init : goal.loop-size-init
loop-size-init c = begun _ _ _ _ c.requires.0 c.requires.1

pub size_at-requires : goal.size_at-requires
size_at-requires c = c.loop-size.invariant.inside

pub overflow_add-at : goal.overflow_add-at
overflow_add-at c = omega (arith, (takes_inside _ c.args.s.now _ _ _ c.loop-size.invariant.inside c.in-Some.ensures.1).0)

pub plains_on-at-requires : goal.plains_on-at-requires
plains_on-at-requires c = (takes_inside _ c.args.s.now _ _ _ c.loop-size.invariant.inside c.in-Some.ensures.1).0

pub overflow_add-spare : goal.overflow_add-spare
overflow_add-spare c =
    omega (arith, c.loop-size.invariant.count, c.in-Some.ensures.0, (takes_inside _ c.args.s.now _ _ _ c.loop-size.invariant.inside c.in-Some.ensures.1).0)

pub loop-size-smaller-in-Some : goal.loop-size-smaller-in-Some
loop-size-smaller-in-Some c = omega (arith, (takes_inside _ c.args.s.now _ _ _ c.loop-size.invariant.inside c.in-Some.ensures.1).1, c.plains_on-at.ensures.onward, c.plains_on-at.ensures.inside)

pub loop-size-preserved-in-Some : goal.loop-size-preserved-in-Some
loop-size-preserved-in-Some c =
    over_plains (counted_on c.loop-size.invariant _ c.in-Some.ensures.1 (omega (arith, c.in-Some.ensures.0))) c.plains_on-at.ensures

pub overflow_add-result : goal.overflow_add-result
overflow_add-result c = omega (arith, c.loop-size.invariant.inside)

pub overflow_sub-result : goal.overflow_sub-result
overflow_sub-result c = omega (arith, c.loop-size.invariant.count)

pub overflow_sub-result-in-Ok-Close : goal.overflow_sub-result-in-Ok-Close
overflow_sub-result-in-Ok-Close c = omega (arith, c.loop-size.invariant.count)

pub returns-in-Ok-Close : goal.returns-in-Ok-Close
returns-in-Ok-Close c = closed c.loop-size.invariant _ c.unit_at-unit.ensures.is (ok_is c.in-Ok-Close.is (rw c.in-Ok-Close.is at c.in-Ok-Close.field-0-is))

pub overflow_add-at-in-Ok-Took : goal.overflow_add-at-in-Ok-Took
overflow_add-at-in-Ok-Took c =
    omega (arith, (takes_inside _ c.args.s.now _ _ _ c.loop-size.invariant.inside (took_takes _ (drop c.loop-size.at c.args.s.now) _ c.unit_at-unit.ensures.is c.unit_at-unit.ensures.few _ _ (ok_is c.in-Ok-Took.is (rw c.in-Ok-Took.is at c.in-Ok-Took.field-0-is)))).0)

pub plains_on-at-requires-in-Ok-Took : goal.plains_on-at-requires-in-Ok-Took
plains_on-at-requires-in-Ok-Took c =
    (takes_inside _ c.args.s.now _ _ _ c.loop-size.invariant.inside (took_takes _ (drop c.loop-size.at c.args.s.now) _ c.unit_at-unit.ensures.is c.unit_at-unit.ensures.few _ _ (ok_is c.in-Ok-Took.is (rw c.in-Ok-Took.is at c.in-Ok-Took.field-0-is)))).0

pub overflow_sub-spare : goal.overflow_sub-spare
overflow_sub-spare c = took_less _ (drop c.loop-size.at c.args.s.now) _ c.unit_at-unit.ensures.is c.unit_at-unit.ensures.few _ _ (ok_is c.in-Ok-Took.is (rw c.in-Ok-Took.is at c.in-Ok-Took.field-0-is))

pub overflow_add-spare-in-Ok-Took : goal.overflow_add-spare-in-Ok-Took
overflow_add-spare-in-Ok-Took c =
    omega (arith, c.loop-size.invariant.count, took_less _ (drop c.loop-size.at c.args.s.now) _ c.unit_at-unit.ensures.is c.unit_at-unit.ensures.few _ _ (ok_is c.in-Ok-Took.is (rw c.in-Ok-Took.is at c.in-Ok-Took.field-0-is)), (takes_inside _ c.args.s.now _ _ _ c.loop-size.invariant.inside (took_takes _ (drop c.loop-size.at c.args.s.now) _ c.unit_at-unit.ensures.is c.unit_at-unit.ensures.few _ _ (ok_is c.in-Ok-Took.is (rw c.in-Ok-Took.is at c.in-Ok-Took.field-0-is)))).0)

pub loop-size-smaller : goal.loop-size-smaller
loop-size-smaller c =
    omega (arith, (takes_inside _ c.args.s.now _ _ _ c.loop-size.invariant.inside (took_takes _ (drop c.loop-size.at c.args.s.now) _ c.unit_at-unit.ensures.is c.unit_at-unit.ensures.few _ _ (ok_is c.in-Ok-Took.is (rw c.in-Ok-Took.is at c.in-Ok-Took.field-0-is)))).1, c.plains_on-at-in-Ok-Took.ensures.onward, c.plains_on-at-in-Ok-Took.ensures.inside)

pub loop-size-preserved : goal.loop-size-preserved
loop-size-preserved c =
    over_plains (counted_on c.loop-size.invariant _ (took_takes _ (drop c.loop-size.at c.args.s.now) _ c.unit_at-unit.ensures.is c.unit_at-unit.ensures.few _ _ (ok_is c.in-Ok-Took.is (rw c.in-Ok-Took.is at c.in-Ok-Took.field-0-is))) (omega (arith, took_less _ (drop c.loop-size.at c.args.s.now) _ c.unit_at-unit.ensures.is c.unit_at-unit.ensures.few _ _ (ok_is c.in-Ok-Took.is (rw c.in-Ok-Took.is at c.in-Ok-Took.field-0-is))))) c.plains_on-at-in-Ok-Took.ensures

pub returns-in-Err : goal.returns-in-Err
returns-in-Err c = failed c.loop-size.invariant _ c.unit_at-unit.ensures.is _ c.in-Err.is _ c.at.ensures
