-- The first pass has no room and leaves the buffer as it was; what it judged is what the second stores (WholeTexts).
use mathlib.Core.Path.{ap, ◌∙◌}
use lib.ListN.{drop}
use Rattle.std.specs.Prelude.{Err}
use Rattle.std.proofs.lemmas.Result.{err_from_is_err_and}
use Rattle.strings.specs.Read.{read_units}
use Rattle.strings.proofs.WholeTexts.{first_wrong, first_over, first_tight, second_good}
use Rattle.strings.proofs.UnitBytes.{units_stored}
use Rattle.strings.proofs.read.two_passes.Goals as goal

pub returns-in_err-judged : goal.returns-in_err-judged
returns-in_err-judged c =
    let p = err_from_is_err_and c.from_residual.result c.from_residual.ensures.1 in
    let r = first_wrong c.args.s.now c.args.out.now (read_units c.args.style c.args.from 0 (drop c.args.from c.args.s.now)) c.read_units.new.out c.read_units.auto.out _ c.in_err-judged.ensures.is in
    record { answer = p.1 ∙ ap Err p.2 ∙ r.0; stored = r.1 }

pub returns-then-judged-s : goal.returns-then-judged-s
returns-then-judged-s c =
    let r = first_over c.args.s.now c.args.out.now (read_units c.args.style c.args.from 0 (drop c.args.from c.args.s.now)) c.read_units.new.out c.read_units.auto.out _ c.in_ok-judged.ensures.is c.if-judged-s.true in
    record { answer = ap Err c.at.ensures ∙ r.0; stored = r.1 }

pub returns-then-out-judged : goal.returns-then-out-judged
returns-then-out-judged c =
    let r = first_tight c.args.s.now c.args.out.now (read_units c.args.style c.args.from 0 (drop c.args.from c.args.s.now)) c.read_units.new.out c.read_units.auto.out _ c.in_ok-judged.ensures.is c.if-judged-s.false c.if-out-judged.true in
    record { answer = ap Err c.at-then-out-judged.ensures ∙ r.0; stored = r.1 }

pub returns : goal.returns
returns c =
    let r = second_good c.args.s.now c.args.out.now (read_units c.args.style c.args.from 0 (drop c.args.from c.args.s.now)) c.read_units.new.out c.read_units.auto.out _ c.in_ok-judged.ensures.is _ c.if-judged-s.false c.if-out-judged.false (units_stored _ _ _ _ _ c.read_units-2.ensures.stored) in record { answer = r.0; stored = r.1 }
