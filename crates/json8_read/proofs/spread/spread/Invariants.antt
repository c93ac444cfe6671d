-- The notes passed are spread (Spreading).
use Prim.Native.Nat.{◌-◌}
use Rattle.json8_read.proofs.Spreading.{Spread}
use Rattle.json8_read.proofs.spread.spread.Given as goal

abbrev pub invariant-loop-i : goal.invariant-loop-i
invariant-loop-i l =
    Spread l.text l.notes l.n l.initial.table l.initial.store l.table l.store l.i l.m

abbrev pub decreases-loop-i : goal.decreases-loop-i
decreases-loop-i l =
    l.n - l.i
