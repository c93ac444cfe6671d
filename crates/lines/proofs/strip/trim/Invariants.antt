-- The invariant: without what stands from `e` on, the same is left (LineEnds).
use mathlib.Core.Path.{◌≡◌}
use Prim.Native.Nat.{◌≤◌}
use lib.ListN.{length, take}
use Rattle.lines.specs.Line.{trimmed}
use Rattle.lines.proofs.strip.trim.Given as goal

abbrev pub invariant-loop-e : goal.invariant-loop-e
invariant-loop-e l =
    (l.e ≤ length l.s) × (trimmed l.s ≡ trimmed (take l.e l.s))

abbrev pub decreases-loop-e : goal.decreases-loop-e
decreases-loop-e l =
    l.e
