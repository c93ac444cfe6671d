-- What the ways through the line reader promise it: this speaks of the code alone, and no rule cites it.
-- Assumes nothing.
use Rattle.std.specs.Prelude.{ℕ, List, ◌≡◌, length, Option, Result}
use Rattle.prelude.specs.declared.refusals.Refused.{Refused}
use Rattle.lines.specs.declared.read.Payload.{Payload}
use Rattle.lines.specs.Line.{LineRead}
use Rattle.lines.specs.Answers.{fitted_line, line_of, line_into}

-- what a call answers and leaves for a line that reads as v
pub record Told (v : LineRead) (r : Result (Option Payload) Refused) (out new : List ℕ) : Type 0 where
  pub answer : r ≡ line_of (fitted_line (length out) v)
  pub stored : new ≡ line_into (fitted_line (length out) v) out
