-- The invariant: nothing was found exactly if the first k bytes are in order beside the next two.
use Prim.Native.Nat.{◌-◌, ◌≤◌}
use mathlib.Core.Bool.{false}
use mathlib.Core.Path.{◌≡◌}
use Rattle.runs.specs.inner.Blocks.{AllTripled}
use Rattle.runs.proofs.threes.any_odd_three.Given as goal

abbrev pub invariant-loop-k : goal.invariant-loop-k
invariant-loop-k l =
    (l.k ≤ 16) × (l.found ≡ false → AllTripled l.q l.s l.at l.k) × (AllTripled l.q l.s l.at l.k → l.found ≡ false)

abbrev pub decreases-loop-k : goal.decreases-loop-k
decreases-loop-k l =
    16 - l.k
