-- The invariant: the front goes on to a place, and the buffer keeps its length (Fronts).
use Prim.Native.Nat.{◌-◌, ◌≤◌}
use mathlib.Core.Path.{◌≡◌}
use lib.ListN.{length}
use Rattle.bytewise.specs.inner.Bytewise.{Onward}
use Rattle.bytewise.proofs.front.put_blocks.Given as goal

abbrev pub invariant-loop-at : goal.invariant-loop-at
invariant-loop-at l =
    (l.at ≤ length l.s) × (length l.out ≡ length l.initial.out) × Onward l.s 0 l.at l.initial.out l.out

abbrev pub decreases-loop-at : goal.decreases-loop-at
decreases-loop-at l =
    length l.s - l.at
