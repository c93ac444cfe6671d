-- The invariant: the LF looked for is found from the place reached as from the first.
use Prim.Native.Nat.{◌+◌, ◌-◌, ◌≤◌}
use mathlib.Core.Path.{◌≡◌}
use lib.ListN.{length, drop}
use Rattle.line_ends.specs.inner.Ends.{line_run}
use Rattle.line_ends.proofs.lf_near.Given as goal

abbrev pub invariant-loop-i : goal.invariant-loop-i
invariant-loop-i l =
    (l.i ≤ length l.p) × (l.i + line_run (drop l.i l.p) ≡ l.from + line_run (drop l.from l.p))

abbrev pub decreases-loop-i : goal.decreases-loop-i
decreases-loop-i l =
    length l.p - l.i
