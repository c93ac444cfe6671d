-- A text that may stand bare is copied if there is room for it (LineAnswers).
use mathlib.Core.Path.{ap, ◌∙◌}
use Rattle.std.specs.Prelude.{Err}
use Rattle.std.proofs.lemmas.Result.{err_from_is_err_and}
use Rattle.lines.proofs.LineAnswers.{bare_tight, bare_holds, bare_faulty}
use Rattle.lines.proofs.read.read_bare.Goals as goal

pub returns-in_err-check_bare : goal.returns-in_err-check_bare
returns-in_err-check_bare c =
    let p = err_from_is_err_and c.from_residual.result c.from_residual.ensures.1 in
    let t = bare_faulty c.args.s.now c.args.out.now _ c.check_bare.ensures _ c.in_err-check_bare.was in
    record { answer = p.1 ∙ ap Err p.2 ∙ t.answer; stored = t.stored }

pub returns-then-out-n : goal.returns-then-out-n
returns-then-out-n c =
    let t = bare_tight c.args.s.now c.args.out.now _ c.check_bare.ensures c.in_ok-check_bare.was c.if-out-n.true in
    record { answer = ap Err c.at.ensures ∙ t.answer; stored = t.stored }

pub returns : goal.returns
returns c = bare_holds c.args.s.now c.args.out.now _ c.check_bare.ensures _ c.in_ok-check_bare.was c.if-out-n.false c.copy_long.ensures
