-- By the tests of the two bytes behind.
use mathlib.Core.Path.{sym, ◌∙◌}
use Rattle.prelude.proofs.Cases.{never, and_left, and_right}
use Rattle.runs.proofs.literals.two_follow.Goals as goal

pub returns-then-s-at-lt3 : goal.returns-then-s-at-lt3
returns-then-s-at-lt3 c = λ e. never (cc)

pub returns : goal.returns
returns c =
    λ e. (sym c.continues.ensures ∙ and_left c.continues.result c.continues-2.result e, sym c.continues-2.ensures ∙ and_right c.continues.result c.continues-2.result e)
