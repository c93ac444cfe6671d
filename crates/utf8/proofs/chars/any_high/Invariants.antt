-- The invariant: nothing was found exactly if the first k bytes are below DEL.
use Prim.Native.Nat.{◌-◌, ◌≤◌}
use mathlib.Core.Bool.{false}
use mathlib.Core.Path.{◌≡◌}
use Rattle.utf8.specs.inner.Checks.{AllLow}
use Rattle.utf8.proofs.chars.any_high.Given as goal

abbrev pub invariant-loop-k : goal.invariant-loop-k
invariant-loop-k l =
    (l.k ≤ l.n) × (l.found ≡ false → AllLow l.s l.at l.k) × (AllLow l.s l.at l.k → l.found ≡ false)

abbrev pub decreases-loop-k : goal.decreases-loop-k
decreases-loop-k l =
    l.n - l.k
