-- Where bytes are still to be stored, neither the closing quote nor a fault stands (Filling).
use native.Mathlib.Omega.{arith}
use Rattle.strings.proofs.Reading.{took_few, took_inside}
use Rattle.string_tokens.proofs.Counting.{ok_is}
use Rattle.string_tokens.proofs.Filling.{unit_filled, no_close, no_fault}
use Rattle.string_tokens.proofs.fill.fill_unit.Goals as goal

pub put_few-requires : goal.put_few-requires
put_few-requires c = took_few _ _ _ (ok_is c.in-Ok-Took.is (rw c.in-Ok-Took.is at c.in-Ok-Took.field-0-is)) c.unit_at-unit.ensures.few

pub overflow_add-result : goal.overflow_add-result
overflow_add-result c = omega (arith, took_inside _ c.args.s.now _ _ _ _ c.unit_at-unit.ensures.is (ok_is c.in-Ok-Took.is (rw c.in-Ok-Took.is at c.in-Ok-Took.field-0-is)) c.requires.0)

pub overflow_add-result-in-Ok-Took : goal.overflow_add-result-in-Ok-Took
overflow_add-result-in-Ok-Took c = omega (arith, took_few _ _ _ (ok_is c.in-Ok-Took.is (rw c.in-Ok-Took.is at c.in-Ok-Took.field-0-is)) c.unit_at-unit.ensures.few, c.requires.1)

pub returns-in-Ok-Close : goal.returns-in-Ok-Close
returns-in-Ok-Close c = no_close _ c.args.s.now c.args.at 0 c.args.out.now _ c.unit_at-unit.ensures.is (ok_is c.in-Ok-Close.is (rw c.in-Ok-Close.is at c.in-Ok-Close.field-0-is)) c.requires.2

pub returns-in-Ok-Took : goal.returns-in-Ok-Took
returns-in-Ok-Took c = unit_filled _ c.args.s.now c.args.at _ c.args.out.now _ c.unit_at-unit.ensures.is c.unit_at-unit.ensures.few _ _ _ (ok_is c.in-Ok-Took.is (rw c.in-Ok-Took.is at c.in-Ok-Took.field-0-is)) c.put_few.ensures

pub returns-in-Err : goal.returns-in-Err
returns-in-Err c = no_fault _ c.args.s.now c.args.at 0 c.args.out.now _ c.unit_at-unit.ensures.is _ c.in-Err.is c.requires.2
