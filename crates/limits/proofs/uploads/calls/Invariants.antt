-- Each call keeps the length of both buffers.
use Rattle.std.proofs.Common.{◌≡◌, ◌-◌, length}
use Rattle.limits.proofs.uploads.calls.Given as goal

abbrev pub invariant-loop-k : goal.invariant-loop-k
invariant-loop-k l =
    (length l.line ≡ length l.initial.line) × (length l.out ≡ length l.initial.out)

abbrev pub decreases-loop-k : goal.decreases-loop-k
decreases-loop-k l =
    1000 - l.k
