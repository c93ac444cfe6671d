-- The invariant: if nothing was found, the first k bytes stand for themselves from both places on.
use Prim.Native.Nat.{◌-◌, ◌≤◌}
use mathlib.Core.Bool.{false}
use mathlib.Core.Path.{◌≡◌}
use Rattle.runs.specs.inner.Blocks.{AllAlone}
use Rattle.runs.proofs.blocks.any_odd_beside.Given as goal

abbrev pub invariant-loop-k : goal.invariant-loop-k
invariant-loop-k l =
    (l.k ≤ l.n) × (l.found ≡ false → AllAlone l.q l.s l.a l.k) × (l.found ≡ false → AllAlone l.q l.s l.b l.k)

abbrev pub decreases-loop-k : goal.decreases-loop-k
decreases-loop-k l =
    l.n - l.k
