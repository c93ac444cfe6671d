-- The line is what stands between the two places (SentenceLines).
use mathlib.Core.Path.{sym}
use native.Mathlib.Omega.{arith}
use Rattle.line_ends.proofs.Ends.{run_inside}
use Rattle.rooms.proofs.Puts.{put_as}
use Rattle.sentences.proofs.SentenceLines.{line_between}
use Rattle.sentences.proofs.put_line.Goals as goal

pub put_run-requires : goal.put_run-requires
put_run-requires c = (omega (arith, c.lf_from-end.ensures, run_inside c.args.s.now c.line_at-at.result c.line_at-at.ensures.0), c.requires)

pub returns : goal.returns
returns c = put_as (sym (line_between c.args.s.now c.args.n _ _ c.line_at-at.ensures.1 c.lf_from-end.ensures)) c.put_run.ensures
