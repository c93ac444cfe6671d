-- The steps left fall, and each keeps the table's length.
use Rattle.std.proofs.Common.{◌≡◌, length}
use Rattle.limits.proofs.fields.table.Given as goal

abbrev pub invariant-loop-at : goal.invariant-loop-at
invariant-loop-at l =
    length l.out ≡ length l.initial.out

abbrev pub decreases-loop-at : goal.decreases-loop-at
decreases-loop-at l =
    l.left
