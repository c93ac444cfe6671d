-- What the blocks passed is the beginning of the run; where it isn't the whole string, what `two_passes` promises is told of the line (LineAnswers).
use mathlib.Core.Path.{sym, ap, ◌∙◌}
use Rattle.std.specs.Prelude.{Err}
use Rattle.std.proofs.lemmas.Result.{err_from_is_err_and}
use lib.Seq.{length-take-le}
use Rattle.runs.proofs.LiteralRuns.{through}
use Rattle.lines.proofs.LineAnswers.{mark_fits, quoted_holds, quoted_inside, quoted_faulty}
use Rattle.lines.proofs.read.read_marked.Goals as goal

pub closes-requires : goal.closes-requires
closes-requires c = (through _ _ _ _ _ c.requires.1 c.literal_run-e.ensures).inside

pub read_literal-requires : goal.read_literal-requires
read_literal-requires c = (c.requires.0, through _ _ _ _ _ c.requires.1 c.literal_run-e.ensures, c.closes.ensures.0 c.if-closes.true)

pub two_passes-requires : goal.two_passes-requires
two_passes-requires c = mark_fits _ _ _ c.requires.0

pub slice_bounds-kind_in-end : goal.slice_bounds-kind_in-end
slice_bounds-kind_in-end c = quoted_inside _ _ _ c.requires.0 c.args.out.now _ _ (c.two_passes.ensures.answer, c.two_passes.ensures.stored) _ c.in_ok-n.was

pub slice_bounds-kind_in-end-2 : goal.slice_bounds-kind_in-end-2
slice_bounds-kind_in-end-2 c =
    sym (length-take-le _ _ (quoted_inside _ _ _ c.requires.0 c.args.out.now _ _ (c.two_passes.ensures.answer, c.two_passes.ensures.stored) _ c.in_ok-n.was))

pub returns-in_err-n : goal.returns-in_err-n
returns-in_err-n c =
    let p = err_from_is_err_and c.from_residual.result c.from_residual.ensures.1 in
    let t = quoted_faulty _ _ _ c.requires.0 c.args.out.now _ _ (c.two_passes.ensures.answer, c.two_passes.ensures.stored) _ c.in_err-n.was in
    record { answer = p.1 ∙ ap Err p.2 ∙ t.answer; stored = t.stored }

pub returns : goal.returns
returns c =
    quoted_holds _ _ _ c.requires.0 c.args.out.now _ _ (c.two_passes.ensures.answer, c.two_passes.ensures.stored) _ _ c.in_ok-n.was c.kind_in.ensures
