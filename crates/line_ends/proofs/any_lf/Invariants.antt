-- The invariant: if nothing was found, none of the first k bytes is an LF.
use Prim.Native.Nat.{◌-◌, ◌≤◌}
use mathlib.Core.Path.{◌≡◌}
use mathlib.Core.Bool.{false}
use Rattle.line_ends.specs.inner.Ends.{NoLf}
use Rattle.line_ends.proofs.any_lf.Given as goal

abbrev pub invariant-loop-k : goal.invariant-loop-k
invariant-loop-k l =
    (l.k ≤ 32) × (l.found ≡ false → NoLf l.p l.at l.k)

abbrev pub decreases-loop-k : goal.decreases-loop-k
decreases-loop-k l =
    32 - l.k
