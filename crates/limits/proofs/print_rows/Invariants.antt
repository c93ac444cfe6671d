-- The bytes left fall, and each keeps the buffer's length.
use Rattle.std.proofs.Common.{◌≡◌, length}
use Rattle.limits.proofs.print_rows.Given as goal

abbrev pub invariant-loop-left : goal.invariant-loop-left
invariant-loop-left l =
    length l.line ≡ length l.initial.line

abbrev pub decreases-loop-left : goal.decreases-loop-left
decreases-loop-left l =
    l.left
