use native.Mathlib.Omega.{arith}
use mathlib.Core.Path.{refl, ap, ◌∙◌}
use Rattle.std.specs.Prelude.{Ok, Err}
use Rattle.std.proofs.lemmas.Result.{err_from_is_err_and}
use Rattle.strings.proofs.Reading.{begun, and_more, moved, ended, failed}
use Rattle.strings.proofs.read.units_from.Goals as goal

pub loop-step-init : goal.loop-step-init
loop-step-init c = (begun c.args.style c.args.s.now c.args.out.now c.args.from c.requires.0, refl, c.requires.1)

pub turn-requires : goal.turn-requires
turn-requires c = (c.loop-step.invariant.0.inside, c.loop-step.invariant.0.less, c.loop-step.invariant.2)

pub overflow_sub-e : goal.overflow_sub-e
overflow_sub-e c = omega (arith, c.loop-step.invariant.2)

pub singles_behind-moved-requires : goal.singles_behind-moved-requires
singles_behind-moved-requires c =
    let m = moved c.loop-step.invariant.0 c.turn.result _ c.turn.ensures.is c.turn.ensures.stored _ _ (c.in_ok-step.was ∙ ap Ok c.in-On.is) in
    (m.0.inside, m.0.less)

pub run_there-e-requires : goal.run_there-e-requires
run_there-e-requires c = c.singles_behind-moved.ensures.inside

pub loop-step-smaller : goal.loop-step-smaller
loop-step-smaller c =
    let m = moved c.loop-step.invariant.0 c.turn.result _ c.turn.ensures.is c.turn.ensures.stored _ _ (c.in_ok-step.was ∙ ap Ok c.in-On.is) in
    omega (arith, m.1, c.singles_behind-moved.ensures.onward, c.singles_behind-moved.ensures.inside)

pub loop-step-preserved : goal.loop-step-preserved
loop-step-preserved c =
    let m = moved c.loop-step.invariant.0 c.turn.result _ c.turn.ensures.is c.turn.ensures.stored _ _ (c.in_ok-step.was ∙ ap Ok c.in-On.is) in
    (and_more m.0 c.singles_behind-moved.ensures, c.singles_behind-moved.auto.out ∙ c.turn.auto.out ∙ c.loop-step.invariant.1, c.run_there-e.ensures)

pub shape_of-out-in-Finish : goal.shape_of-out-in-Finish
shape_of-out-in-Finish c = c.turn.auto.out ∙ c.loop-step.invariant.1

pub returns-in-Finish : goal.returns-in-Finish
returns-in-Finish c =
    let r = ended c.loop-step.invariant.0 c.turn.result _ c.turn.ensures.is c.turn.ensures.stored _ _ (c.in_ok-step.was ∙ ap Ok c.in-Finish.is) in record { is = r.0; stored = r.1 }

pub shape_of-out-in_err-step : goal.shape_of-out-in_err-step
shape_of-out-in_err-step c = c.turn.auto.out ∙ c.loop-step.invariant.1

pub returns-in_err-step : goal.returns-in_err-step
returns-in_err-step c =
    let p = err_from_is_err_and c.from_residual.result c.from_residual.ensures.1 in
    let r = failed c.loop-step.invariant.0 c.turn.result _ c.turn.ensures.is c.turn.ensures.stored _ c.in_err-step.was in
    record { is = p.1 ∙ ap Err p.2 ∙ r.0; stored = r.1 }
