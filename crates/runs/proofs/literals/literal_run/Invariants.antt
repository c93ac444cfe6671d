-- Blocks and characters each leave the run's end where it was, until a character that isn't literal or the text's end is reached (LiteralRuns).
use Prim.Native.Nat.{◌-◌}
use lib.ListN.{length}
use Rattle.runs.specs.inner.Blocks.{Running}
use Rattle.runs.proofs.literals.literal_run.Given as goal

abbrev pub invariant-loop-at : goal.invariant-loop-at
invariant-loop-at l =
    Running l.style l.s l.from l.at

abbrev pub decreases-loop-at : goal.decreases-loop-at
decreases-loop-at l =
    length l.s - l.at
