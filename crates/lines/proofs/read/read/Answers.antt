-- The cap, and then what `read_line` promises (LineAnswers).
use native.Mathlib.Omega.{arith}
use mathlib.Core.Path.{ap, ◌∙◌}
use Rattle.std.specs.Prelude.{Err}
use Rattle.lines.proofs.LineAnswers.{too_long_lem, short_enough}
use Rattle.lines.proofs.read.read.Goals as goal

pub returns-then-l-gt-LINE_MAX : goal.returns-then-l-gt-LINE_MAX
returns-then-l-gt-LINE_MAX c = let r = too_long_lem _ c.args.out.now (omega arith) in record { answer = ap Err c.at.ensures ∙ r.0; stored = r.1 }

pub returns : goal.returns
returns c =
    let r = short_enough _ c.args.out.now _ _ (omega arith) (c.read_line.ensures.answer, c.read_line.ensures.stored) in record { answer = r.0; stored = r.1 }
