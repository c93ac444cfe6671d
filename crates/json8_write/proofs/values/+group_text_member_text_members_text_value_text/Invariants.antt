-- The measure is four times the brackets left, and the function's place in the cycle. The loop's invariant is `Loop`, with a member for
-- each turn (GroupTexts).
use mathlib.Core.Bool.{true}
use Prim.Native.Nat.{◌+◌, ◌*◌}
use Rattle.json8_fit.specs.inner.Steps.{within}
use Rattle.json8_write.specs.inner.Texts.{body_text}
use Rattle.json8_write.proofs.GroupTexts.{Loop}
use Rattle.json8_write.proofs.values.+group_text_member_text_members_text_value_text.Given as goal

abbrev pub decreases-group_text : goal.decreases-group_text
decreases-group_text l =
    4 * l.left

abbrev pub decreases-member_text : goal.decreases-member_text
decreases-member_text l =
    4 * l.left + 2

abbrev pub decreases-members_text : goal.decreases-members_text
decreases-members_text l =
    4 * l.left + 3

abbrev pub invariant-members_text-loop-more : goal.invariant-members_text-loop-more
invariant-members_text-loop-more l =
    Loop l.sort l.table l.text l.store l.left l.room (body_text true (within l.sort l.table l.text l.store l.left l.members l.w l.i)) l.o l.initial.out l.more l.at l.p l.first l.out

abbrev pub decreases-members_text-loop-more : goal.decreases-members_text-loop-more
decreases-members_text-loop-more l =
    l.more

abbrev pub decreases-value_text : goal.decreases-value_text
decreases-value_text l =
    4 * l.left + 1
