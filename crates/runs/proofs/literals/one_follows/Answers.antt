-- By the test of the byte behind.
use mathlib.Core.Path.{sym, ◌∙◌}
use Rattle.prelude.proofs.Cases.{never}
use Rattle.runs.proofs.literals.one_follows.Goals as goal

pub returns-then-s-at-lt2 : goal.returns-then-s-at-lt2
returns-then-s-at-lt2 c = λ e. never (cc)

pub returns : goal.returns
returns c = λ e. sym c.continues.ensures ∙ e
