-- The line of types, if there is one, and then the rest (HeadTexts).
use mathlib.Core.Path.{ap, ◌∙◌}
use native.Mathlib.Omega.{arith}
use Rattle.std.specs.Prelude.{Err}
use Rattle.std.proofs.lemmas.Result.{err_from_is_err_and}
use Rattle.tsv8.proofs.HeadTexts.{types_stop, rest_in, lines_stop, lines_all}
use Rattle.tsv8.proofs.heads.behind_names.Goals as goal

pub judge_lines-requires : goal.judge_lines-requires
judge_lines-requires c =
    let i = rest_in _ _ _ _ c.args.m c.line_from-at.ensures _ _ c.in_ok-rest.ensures in (c.requires.0, i.1.0, c.requires.2, c.requires.3, omega (arith, c.requires.4, c.line_from-at.ensures.onward, i.0), i.1.1)

pub returns-in_err-rest : goal.returns-in_err-rest
returns-in_err-rest c =
    let p = err_from_is_err_and c.from_residual.result c.from_residual.ensures.1 in rw (p.1 ∙ ap Err p.2) (types_stop _ _ _ _ _ c.line_from-at.ensures _ _ _ c.in_err-rest.ensures)

pub returns-in_err-counted : goal.returns-in_err-counted
returns-in_err-counted c =
    let p = err_from_is_err_and c.from_residual-in_err-counted.result c.from_residual-in_err-counted.ensures.1 in rw (p.1 ∙ ap Err p.2) (lines_stop _ _ _ _ _ c.line_from-at.ensures _ _ c.in_ok-rest.ensures _ _ c.in_err-counted.ensures)

pub returns : goal.returns
returns c = lines_all _ _ _ _ _ c.line_from-at.ensures _ _ c.in_ok-rest.ensures _ _ c.in_ok-counted.ensures c.requires.4
