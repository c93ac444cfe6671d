-- The bytes that are left are read from the position reached (Reading).
use Prim.Native.Nat.{◌-◌, ◌≤◌}
use lib.ListN.{length}
use Rattle.positions.proofs.Reading.{Reading}
use Rattle.positions.proofs.position_of.Given as goal

abbrev pub invariant-loop-i : goal.invariant-loop-i
invariant-loop-i l =
    Reading l.text l.place l.p l.i × (l.i ≤ l.end) × (l.end ≤ l.place) × (l.end ≤ length l.text)

abbrev pub decreases-loop-i : goal.decreases-loop-i
decreases-loop-i l =
    l.end - l.i
