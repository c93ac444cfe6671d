-- The bytes before a place are shown and put (Showing).
use Prim.Native.Nat.{◌-◌}
use mathlib.Core.Path.{◌≡◌}
use lib.ListN.{length}
use Rattle.terminals.proofs.Showing.{Showing}
use Rattle.terminals.proofs.put_safe.Given as goal

abbrev pub invariant-loop-at : goal.invariant-loop-at
invariant-loop-at l =
    Showing l.text l.room l.initial.out l.m l.at l.o l.out × (length l.out ≡ length l.initial.out)

abbrev pub decreases-loop-at : goal.decreases-loop-at
decreases-loop-at l =
    length l.text - l.at
