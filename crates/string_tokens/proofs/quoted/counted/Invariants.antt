-- The loop's invariant `Counted`: one unit more, and the plain bytes behind it (Counting).
use Prim.Native.Nat.{◌-◌}
use lib.ListN.{length}
use Rattle.string_tokens.proofs.Counting.{Counted}
use Rattle.string_tokens.proofs.quoted.counted.Given as goal

abbrev pub invariant-loop-size : goal.invariant-loop-size
invariant-loop-size l =
    Counted l.style l.s l.from l.at l.spare

abbrev pub decreases-loop-size : goal.decreases-loop-size
decreases-loop-size l =
    length l.s - l.at
