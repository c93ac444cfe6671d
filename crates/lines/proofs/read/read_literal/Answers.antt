-- The run is valid UTF-8, so what `read_run` promises is told of the line with kind 1 (LineAnswers).
use mathlib.Core.Path.{ap, ◌∙◌}
use Rattle.std.specs.Prelude.{Err}
use Rattle.std.proofs.lemmas.Result.{err_from_is_err_and}
use Rattle.lines.proofs.LineAnswers.{mark_fits, literal_holds, quoted_faulty}
use Rattle.lines.proofs.read.read_literal.Goals as goal

pub read_run-requires : goal.read_run-requires
read_run-requires c = (mark_fits _ _ _ c.requires.0, c.requires.1, c.requires.2)

pub returns-in_err-n : goal.returns-in_err-n
returns-in_err-n c =
    let p = err_from_is_err_and c.from_residual.result c.from_residual.ensures.1 in
    let t = quoted_faulty _ _ _ c.requires.0 c.args.out.now _ _ (c.read_run.ensures.answer, c.read_run.ensures.stored) _ c.in_err-n.was in
    record { answer = p.1 ∙ ap Err p.2 ∙ t.answer; stored = t.stored }

pub returns : goal.returns
returns c =
    literal_holds _ _ _ c.requires.0 c.args.out.now _ _ (c.read_run.ensures.answer, c.read_run.ensures.stored) _ _ c.requires.1 c.requires.2 c.in_ok-n.was
