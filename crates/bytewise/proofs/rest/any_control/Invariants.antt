-- The invariant: if nothing was found, the first k bytes are no controls.
use Prim.Native.Nat.{◌-◌, ◌≤◌}
use mathlib.Core.Bool.{false}
use mathlib.Core.Path.{◌≡◌}
use Rattle.bytewise.specs.inner.Bytewise.{NoControl}
use Rattle.bytewise.proofs.rest.any_control.Given as goal

abbrev pub invariant-loop-k : goal.invariant-loop-k
invariant-loop-k l =
    (l.k ≤ 8) × (l.found ≡ false → NoControl l.s l.at l.k)

abbrev pub decreases-loop-k : goal.decreases-loop-k
decreases-loop-k l =
    8 - l.k
