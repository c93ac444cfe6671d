-- Each kind of unit is its own step, and its bytes are those stored (Reading).
use native.Mathlib.Omega.{arith}
use mathlib.Core.Path.{ap, ◌∙◌}
use Rattle.std.specs.Prelude.{Ok, Err}
use Rattle.strings.proofs.Reading.{on_close, took_inside, took_few, on_took, on_fault}
use Rattle.strings.proofs.read.unit_turn.Goals as goal

pub put_few-requires : goal.put_few-requires
put_few-requires c = took_few _ _ _ (c.in-Ok-Took.is ∙ ap Ok c.in-Ok-Took.field-0-is) c.unit_at.ensures.few

pub overflow_add-result-in-Ok-Took : goal.overflow_add-result-in-Ok-Took
overflow_add-result-in-Ok-Took c = omega (arith, took_inside c.args.style c.args.s.now c.args.at _ _ _ c.unit_at.ensures.is (c.in-Ok-Took.is ∙ ap Ok c.in-Ok-Took.field-0-is) c.requires.0)

pub overflow_add-result-in-Ok-Took-2 : goal.overflow_add-result-in-Ok-Took-2
overflow_add-result-in-Ok-Took-2 c = omega (arith, took_few _ _ _ (c.in-Ok-Took.is ∙ ap Ok c.in-Ok-Took.field-0-is) c.unit_at.ensures.few)

pub returns-in-Ok-Close : goal.returns-in-Ok-Close
returns-in-Ok-Close c =
    let r = on_close _ _ _ _ _ _ c.unit_at.ensures.is (c.in-Ok-Close.is ∙ ap Ok c.in-Ok-Close.field-0-is) in record { is = r.0; stored = r.1 }

pub returns-in-Ok-Took : goal.returns-in-Ok-Took
returns-in-Ok-Took c =
    let r = on_took _ _ _ _ _ _ c.unit_at.ensures.is _ _ _ (c.in-Ok-Took.is ∙ ap Ok c.in-Ok-Took.field-0-is) c.unit_at.ensures.few c.put_few.ensures in record { is = r.0; stored = r.1 }

pub returns-in-Err : goal.returns-in-Err
returns-in-Err c =
    let r = on_fault _ _ _ _ _ _ c.unit_at.ensures.is _ c.in-Err.is in record { is = ap Err c.at.ensures ∙ r.0; stored = r.1 }
