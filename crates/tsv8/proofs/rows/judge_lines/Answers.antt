use mathlib.Core.Path.{ap, ◌∙◌}
use native.Mathlib.Omega.{arith}
use Rattle.std.specs.Prelude.{Err}
use Rattle.std.proofs.lemmas.Result.{err_from_is_err_and}
use Rattle.tsv8.proofs.LineTexts.{passing_none, passing_end, passing_stop, passing_skip, skip_in, read_in, passing_read}
use Rattle.tsv8.proofs.rows.judge_lines.Goals as goal

pub loop-at-init : goal.loop-at-init
loop-at-init c = passing_none _ _ _ _ _ c.requires.1 c.requires.4

pub judge_line-requires : goal.judge_line-requires
judge_line-requires c = (c.requires.0, c.loop-at-test.true, c.requires.3, c.loop-at.invariant.small, c.requires.5)

pub overflow_add-at : goal.overflow_add-at
overflow_add-at c = omega (arith, (skip_in _ _ _ _ _ _ _ _ c.loop-at.invariant c.loop-at-test.true _ c.in_ok-line.ensures _ c.in-Skipped.is).1, c.requires.0)

pub loop-at-smaller-in-Skipped : goal.loop-at-smaller-in-Skipped
loop-at-smaller-in-Skipped c = omega (arith, (skip_in _ _ _ _ _ _ _ _ c.loop-at.invariant c.loop-at-test.true _ c.in_ok-line.ensures _ c.in-Skipped.is).0)

pub loop-at-preserved-in-Skipped : goal.loop-at-preserved-in-Skipped
loop-at-preserved-in-Skipped c = passing_skip _ _ _ _ _ _ _ _ c.loop-at.invariant c.loop-at-test.true _ c.in_ok-line.ensures _ c.in-Skipped.is

pub overflow_add-at-in-Read : goal.overflow_add-at-in-Read
overflow_add-at-in-Read c =
    let i = read_in _ _ _ _ _ _ _ _ c.loop-at.invariant c.loop-at-test.true _ c.in_ok-line.ensures _ c.in-Read.is in omega (arith, i.1.0, c.requires.0)

pub overflow_add-count : goal.overflow_add-count
overflow_add-count c =
    let i = read_in _ _ _ _ _ _ _ _ c.loop-at.invariant c.loop-at-test.true _ c.in_ok-line.ensures _ c.in-Read.is in omega (arith, i.1.0, i.1.1, c.requires.0)

pub loop-at-smaller : goal.loop-at-smaller
loop-at-smaller c = let i = read_in _ _ _ _ _ _ _ _ c.loop-at.invariant c.loop-at-test.true _ c.in_ok-line.ensures _ c.in-Read.is in omega (arith, i.0)

pub loop-at-preserved : goal.loop-at-preserved
loop-at-preserved c = passing_read _ _ _ _ _ _ _ _ c.loop-at.invariant c.loop-at-test.true _ c.in_ok-line.ensures _ c.in-Read.is c.requires.2

pub returns-in_err-line : goal.returns-in_err-line
returns-in_err-line c =
    let p = err_from_is_err_and c.from_residual.result c.from_residual.ensures.1 in rw (p.1 ∙ ap Err p.2) (passing_stop _ _ _ _ _ _ _ _ c.loop-at.invariant _ c.in_err-line.ensures)

pub returns : goal.returns
returns c = passing_end _ _ _ _ _ _ _ _ c.loop-at.invariant c.loop-at-test.false
