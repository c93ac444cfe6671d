-- The invariant: of the first k bytes those before the first found stand for themselves.
use Prim.Native.Nat.{ℕ, ◌+◌, ◌-◌, ◌≤◌, ◌<◌}
use lib.ListN.{get_or}
use Rattle.runs.specs.inner.Blocks.{Alone}
use Rattle.runs.proofs.blocks.first_odd.Given as goal

abbrev pub invariant-loop-k : goal.invariant-loop-k
invariant-loop-k l =
    (l.k ≤ 32) × ((j : ℕ) → j < l.k → j < l.first → Alone l.q (get_or l.s (l.at + j) 0))

abbrev pub decreases-loop-k : goal.decreases-loop-k
decreases-loop-k l =
    32 - l.k
