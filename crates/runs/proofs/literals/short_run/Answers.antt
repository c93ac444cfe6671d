-- The run ends among the first bytes, or where `run_on` says.
use native.Mathlib.Omega.{arith}
use mathlib.Core.Path.{◌∙◌}
use Rattle.runs.proofs.LiteralRuns.{stopped}
use Rattle.runs.proofs.literals.short_run.Goals as goal

pub soon-end-requires : goal.soon-end-requires
soon-end-requires c = (c.requires, omega arith)

pub chars_before-at-requires : goal.chars_before-at-requires
chars_before-at-requires c = (c.requires, c.soon-end.ensures.within.0)

pub returns-then-at-end : goal.returns-then-at-end
returns-then-at-end c = stopped _ _ _ _ c.chars_before-at.ensures.run (c.chars_before-at.ensures.stop c.if-at-end.true)

pub returns : goal.returns
returns c = c.run_on.ensures ∙ c.chars_before-at.ensures.run.same
