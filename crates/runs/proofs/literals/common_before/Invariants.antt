-- Characters of one, two and three bytes that their class and followers show to be literal in every style (LiteralClasses).
use Prim.Native.Nat.{◌-◌, ◌≤◌}
use lib.ListN.{length}
use Rattle.notation.specs.declared.styles.Style.{Style}
use Rattle.runs.specs.inner.Blocks.{Running}
use Rattle.runs.proofs.literals.common_before.Given as goal

abbrev pub invariant-loop-at : goal.invariant-loop-at
invariant-loop-at l =
    (l.at ≤ length l.s) × ((st : Style) → Running st l.s l.from l.at)

abbrev pub decreases-loop-at : goal.decreases-loop-at
decreases-loop-at l =
    length l.s - l.at
