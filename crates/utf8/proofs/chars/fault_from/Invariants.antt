-- One turn of the loop takes one continuation byte (FaultSteps).
use Prim.Native.Nat.{◌-◌}
use lib.ListN.{drop}
use Rattle.utf8.proofs.FaultSteps.{Turns}
use Rattle.utf8.proofs.chars.fault_from.Given as goal

abbrev pub invariant-loop-k : goal.invariant-loop-k
invariant-loop-k l =
    Turns l.a (drop l.from l.s) l.n l.v l.k

abbrev pub decreases-loop-k : goal.decreases-loop-k
decreases-loop-k l =
    l.n - l.k
