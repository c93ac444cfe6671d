-- The line is what stands between the two places (TextLines).
use native.Mathlib.Omega.{arith}
use Rattle.line_ends.proofs.Ends.{run_inside}
use Rattle.command_texts.proofs.Puts.{whole_as}
use Rattle.command_texts.proofs.TextLines.{line_between}
use Rattle.command_texts.proofs.put_line.Goals as goal

pub slice_bounds-put-end : goal.slice_bounds-put-end
slice_bounds-put-end c = omega (arith, c.lf_from-end.ensures, run_inside c.args.s.now c.line_at-from.result c.line_at-from.ensures.0)

pub returns : goal.returns
returns c = whole_as (line_between c.args.s.now c.args.n _ _ c.line_at-from.ensures.1 c.lf_from-end.ensures) c.put.ensures
