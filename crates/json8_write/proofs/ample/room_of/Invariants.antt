-- The room of the nodes before i, and that of the others (Roominess).
use Prim.Native.Nat.{◌-◌}
use Rattle.json8_write.proofs.Roominess.{Summed}
use Rattle.json8_write.proofs.ample.room_of.Given as goal

abbrev pub invariant-loop-i : goal.invariant-loop-i
invariant-loop-i l =
    Summed l.table l.n l.i l.room

abbrev pub decreases-loop-i : goal.decreases-loop-i
decreases-loop-i l =
    l.n - l.i
