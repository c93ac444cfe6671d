-- The invariant: in each style that has this quote, only literal characters are passed; a step is a byte of ASCII or a lead with its continuation (BlockLaws).
use Prim.Native.Nat.{◌-◌, ◌≤◌}
use mathlib.Core.Path.{◌≡◌}
use lib.ListN.{length}
use Rattle.notation.specs.declared.styles.Style.{Style}
use Rattle.notation.specs.Styles.{quote}
use Rattle.runs.specs.inner.Blocks.{Running}
use Rattle.runs.proofs.shorts.one_by_one.Given as goal

abbrev pub invariant-loop-at : goal.invariant-loop-at
invariant-loop-at l =
    (l.at ≤ length l.s) × ((st : Style) → l.q ≡ quote st → Running st l.s l.from l.at)

abbrev pub decreases-loop-at : goal.decreases-loop-at
decreases-loop-at l =
    length l.s - l.at
