-- The sum so far is that of the notes passed (Spreading).
use Prim.Native.Nat.{◌-◌}
use Rattle.json8_read.proofs.Spreading.{Summed}
use Rattle.json8_read.proofs.spread.stored.Given as goal

abbrev pub invariant-loop-i : goal.invariant-loop-i
invariant-loop-i l =
    Summed l.notes l.n l.i l.m

abbrev pub decreases-loop-i : goal.decreases-loop-i
decreases-loop-i l =
    l.n - l.i
