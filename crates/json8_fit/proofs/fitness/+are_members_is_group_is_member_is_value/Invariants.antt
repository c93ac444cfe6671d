-- The measure is four times the brackets left, and the function's place in the cycle. The loop's invariant is `Judged`, with a member
-- for each turn (Fitting).
use Prim.Native.Nat.{◌+◌, ◌*◌}
use Rattle.json8_fit.specs.Fitness.{is_fit}
use Rattle.json8_fit.specs.inner.Steps.{within}
use Rattle.json8_fit.proofs.Fitting.{Judged}
use Rattle.json8_fit.proofs.fitness.+are_members_is_group_is_member_is_value.Given as goal

abbrev pub decreases-are_members : goal.decreases-are_members
decreases-are_members l =
    4 * l.left + 3

abbrev pub invariant-are_members-loop-more : goal.invariant-are_members-loop-more
invariant-are_members-loop-more l =
    Judged l.sort l.table l.text l.store l.left (is_fit (within l.sort l.table l.text l.store l.left l.members l.w l.i)) l.more l.free l.at

abbrev pub decreases-are_members-loop-more : goal.decreases-are_members-loop-more
decreases-are_members-loop-more l =
    l.more

abbrev pub decreases-is_group : goal.decreases-is_group
decreases-is_group l =
    4 * l.left

abbrev pub decreases-is_member : goal.decreases-is_member
decreases-is_member l =
    4 * l.left + 2

abbrev pub decreases-is_value : goal.decreases-is_value
decreases-is_value l =
    4 * l.left + 1
