-- The part begins before the place, which goes up to the end.
use Rattle.std.proofs.Common.{◌-◌, ◌≤◌, length}
use Rattle.limits.proofs.fields.part.Given as goal

abbrev pub invariant-loop-at : goal.invariant-loop-at
invariant-loop-at l =
    (l.at-end ≤ length l.s) × (l.from ≤ l.at) × (l.at ≤ l.at-end)

abbrev pub decreases-loop-at : goal.decreases-loop-at
decreases-loop-at l =
    l.at-end - l.at
