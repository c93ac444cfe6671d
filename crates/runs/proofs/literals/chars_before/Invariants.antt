-- A character at a time, the run goes on by its length, and it stops where that is 0 (LiteralRuns).
use Prim.Native.Nat.{◌-◌}
use lib.ListN.{length}
use Rattle.runs.specs.inner.Blocks.{Running}
use Rattle.runs.proofs.literals.chars_before.Given as goal

abbrev pub invariant-loop-at : goal.invariant-loop-at
invariant-loop-at l =
    Running l.style l.s l.from l.at

abbrev pub decreases-loop-at : goal.decreases-loop-at
decreases-loop-at l =
    length l.s - l.at
