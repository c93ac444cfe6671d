use mathlib.Core.Path.{sym, ap, ◌∙◌}
use native.Mathlib.Omega.{arith}
use Rattle.trees.specs.Trees.{Tree}
use Rattle.trees.specs.Tables.{Maybe}
use Rattle.json8_fit.specs.Fitness.{is_fit}
use Rattle.json8_write.specs.inner.Texts.{tree_text}
use Rattle.rooms.proofs.Puts.{put_as}
use Rattle.json8_fit.proofs.TableNodes.{count_there, value_room}
use Rattle.json8_fit.proofs.Choices.{value_group, value_leaf}
use Rattle.json8_write.proofs.GroupTexts.{value_there, value_fit, member_put, begun, opens, counts, inner_fit, group_put, turn_bound, turn_label, turn_tree, further, ended}
use Rattle.json8_write.proofs.values.+group_text_member_text_members_text_value_text.Goals as goal

pub group_text-overflow_mul-i : goal.group_text-overflow_mul-i
group_text-overflow_mul-i t c = omega (arith, c.requires.0)

pub group_text-overflow_add-i : goal.group_text-overflow_add-i
group_text-overflow_add-i t c = omega (arith, c.requires.0)

pub group_text-number_in-count-requires : goal.group_text-number_in-count-requires
group_text-number_in-count-requires t c = omega (arith, c.requires.0)

pub group_text-overflow_mul-i-2 : goal.group_text-overflow_mul-i-2
group_text-overflow_mul-i-2 t c = omega (arith, c.requires.0)

pub group_text-overflow_add-i-2 : goal.group_text-overflow_add-i-2
group_text-overflow_add-i-2 t c = omega (arith, c.requires.0)

pub group_text-number_in-members-requires : goal.group_text-number_in-members-requires
group_text-number_in-members-requires t c = omega (arith, c.requires.0)

pub group_text-put_open-p-requires : goal.group_text-put_open-p-requires
group_text-put_open-p-requires t c = c.requires.3

pub group_text-overflow_add-i-3 : goal.group_text-overflow_add-i-3
group_text-overflow_add-i-3 t c = omega (arith, c.requires.1)

pub group_text-overflow_sub-count : goal.group_text-overflow_sub-count
group_text-overflow_sub-count t c = omega (arith, counts c.args.sort c.args.table.now c.args.text.now c.args.store.now c.args.left c.args.i c.requires.2, c.number_in-count.ensures.0)

pub group_text-overflow_sub-left : goal.group_text-overflow_sub-left
group_text-overflow_sub-left t c = omega (arith, opens c.args.sort c.args.table.now c.args.text.now c.args.store.now c.args.left c.args.i c.requires.2)

pub group_text-members_text-q-requires : goal.group_text-members_text-q-requires
group_text-members_text-q-requires t c =
    (omega (arith, c.decreases, opens c.args.sort c.args.table.now c.args.text.now c.args.store.now c.args.left c.args.i c.requires.2), (omega (arith, c.requires.1, counts c.args.sort c.args.table.now c.args.text.now c.args.store.now c.args.left c.args.i c.requires.2, c.number_in-count.ensures.0), inner_fit c.args.sort c.args.table.now c.args.text.now c.args.store.now c.args.left c.args.i c.requires.2 _ _ c.number_in-count.ensures.0 c.number_in-members.ensures.0, c.requires.3))

pub group_text-put_close-requires : goal.group_text-put_close-requires
group_text-put_close-requires t c = c.requires.3

pub group_text-shape_of-out : goal.group_text-shape_of-out
group_text-shape_of-out t c = c.put_close.auto.out ∙ c.members_text-q.auto.out ∙ c.put_open-p.auto.out

pub group_text-returns : goal.group_text-returns
group_text-returns t c =
    group_put c.args.sort c.args.table.now c.args.text.now c.args.store.now c.args.left c.args.i c.requires.2 _ _ c.number_in-count.ensures.0 c.number_in-members.ensures.0 c.put_open-p.ensures c.members_text-q.ensures c.put_close.ensures

pub member_text-put_comma-p-requires : goal.member_text-put_comma-p-requires
member_text-put_comma-p-requires t c = c.requires.3

pub member_text-label_text-q-requires : goal.member_text-label_text-q-requires
member_text-label_text-q-requires t c = (c.requires.1, c.requires.3)

pub member_text-label_size-requires : goal.member_text-label_size-requires
member_text-label_size-requires t c = tt

pub member_text-overflow_add-i : goal.member_text-overflow_add-i
member_text-overflow_add-i t c = omega (arith, c.requires.0, c.label_size.ensures.1)

pub member_text-value_text-requires : goal.member_text-value_text-requires
member_text-value_text-requires t c =
    (omega (arith, c.decreases), (value_room c.args.sort c.args.table.now c.args.i _ c.label_size.ensures.0 c.requires.0, value_fit c.args.sort c.args.table.now c.args.text.now c.args.store.now c.args.left c.args.i c.args.first _ c.label_size.ensures.0 c.requires.2, c.requires.3))

pub member_text-shape_of-out : goal.member_text-shape_of-out
member_text-shape_of-out t c = c.value_text.auto.out ∙ c.label_text-q.auto.out ∙ c.put_comma-p.auto.out

pub member_text-returns : goal.member_text-returns
member_text-returns t c =
    member_put c.args.sort c.args.table.now c.args.text.now c.args.store.now c.args.left c.args.i c.args.first _ c.label_size.ensures.0 c.put_comma-p.ensures c.label_text-q.ensures c.value_text.ensures

pub members_text-loop-more-init : goal.members_text-loop-more-init
members_text-loop-more-init t c = begun c.args.sort c.args.table.now c.args.text.now c.args.store.now c.args.left _ _ c.args.w _ _ _ c.requires.0 c.requires.1

pub members_text-member_text-p-requires : goal.members_text-member_text-p-requires
members_text-member_text-p-requires t c =
    (omega (arith, c.decreases), (turn_bound c.args.sort c.args.table.now c.args.text.now c.args.store.now c.args.left c.args.room _ _ _ _ _ _ _ _ c.loop-more.invariant c.loop-more-test.true, turn_label c.args.sort c.args.table.now c.args.text.now c.args.store.now c.args.left c.args.room _ _ _ _ _ _ _ _ c.loop-more.invariant c.loop-more-test.true, turn_tree c.args.sort c.args.table.now c.args.text.now c.args.store.now c.args.left c.args.room _ _ _ _ _ _ _ _ c.loop-more.invariant c.loop-more-test.true, c.requires.2))

pub members_text-member_size-at-requires : goal.members_text-member_size-at-requires
members_text-member_size-at-requires t c =
    omega (arith, turn_bound c.args.sort c.args.table.now c.args.text.now c.args.store.now c.args.left c.args.room _ _ _ _ _ _ _ _ c.loop-more.invariant c.loop-more-test.true)

pub members_text-overflow_add-at : goal.members_text-overflow_add-at
members_text-overflow_add-at t c =
    omega (arith, c.member_size-at.ensures.1, turn_bound c.args.sort c.args.table.now c.args.text.now c.args.store.now c.args.left c.args.room _ _ _ _ _ _ _ _ c.loop-more.invariant c.loop-more-test.true)

pub members_text-overflow_sub-more : goal.members_text-overflow_sub-more
members_text-overflow_sub-more t c = omega arith

pub members_text-loop-more-smaller : goal.members_text-loop-more-smaller
members_text-loop-more-smaller t c = omega arith

pub members_text-loop-more-preserved : goal.members_text-loop-more-preserved
members_text-loop-more-preserved t c =
    further c.args.sort c.args.table.now c.args.text.now c.args.store.now c.args.left c.args.room _ _ _ _ _ _ _ _ c.loop-more.invariant c.loop-more-test.true c.member_text-p.ensures c.member_size-at.ensures.0 c.member_text-p.auto.out

pub members_text-shape_of-out : goal.members_text-shape_of-out
members_text-shape_of-out t c = c.loop-more.invariant.long

pub members_text-returns : goal.members_text-returns
members_text-returns t c =
    ended c.args.sort c.args.table.now c.args.text.now c.args.store.now c.args.left c.args.room _ _ _ _ _ _ _ _ c.loop-more.invariant c.loop-more-test.false

pub value_text-overflow_mul-i : goal.value_text-overflow_mul-i
value_text-overflow_mul-i t c = omega (arith, (value_there c.args.table.now c.args.text.now c.args.store.now c.args.left c.args.i c.requires.1))

pub value_text-offset_bounds-table-i : goal.value_text-offset_bounds-table-i
value_text-offset_bounds-table-i t c = omega (arith, (value_there c.args.table.now c.args.text.now c.args.store.now c.args.left c.args.i c.requires.1))

pub value_text-bounds-table-i : goal.value_text-bounds-table-i
value_text-bounds-table-i t c = omega (arith, (value_there c.args.table.now c.args.text.now c.args.store.now c.args.left c.args.i c.requires.1))

pub value_text-sort_of-requires : goal.value_text-sort_of-requires
value_text-sort_of-requires t c = tt

pub value_text-group_text-requires : goal.value_text-group_text-requires
value_text-group_text-requires t c =
    (omega (arith, c.decreases), ((value_there c.args.table.now c.args.text.now c.args.store.now c.args.left c.args.i c.requires.1), omega (arith, c.requires.0, count_there c.args.i c.args.table.now (value_there c.args.table.now c.args.text.now c.args.store.now c.args.left c.args.i c.requires.1)), sym (ap (λ (x : Maybe Tree). is_fit x) (value_group c.args.table.now c.args.text.now c.args.store.now c.args.left c.args.i (value_there c.args.table.now c.args.text.now c.args.store.now c.args.left c.args.i c.requires.1) _ c.sort_of.ensures _ c.in-Some.is)) ∙ c.requires.1, c.requires.2))

pub value_text-leaf_text-requires : goal.value_text-leaf_text-requires
value_text-leaf_text-requires t c =
    ((value_there c.args.table.now c.args.text.now c.args.store.now c.args.left c.args.i c.requires.1), sym (ap (λ (x : Maybe Tree). is_fit x) (value_leaf c.args.table.now c.args.text.now c.args.store.now c.args.left c.args.i (value_there c.args.table.now c.args.text.now c.args.store.now c.args.left c.args.i c.requires.1) _ c.sort_of.ensures c.in-None.is)) ∙ c.requires.1, c.requires.2)

pub value_text-shape_of-out-in-Some : goal.value_text-shape_of-out-in-Some
value_text-shape_of-out-in-Some t c = c.group_text.auto.out

pub value_text-returns-in-Some : goal.value_text-returns-in-Some
value_text-returns-in-Some t c =
    put_as (ap tree_text (value_group c.args.table.now c.args.text.now c.args.store.now c.args.left c.args.i (value_there c.args.table.now c.args.text.now c.args.store.now c.args.left c.args.i c.requires.1) _ c.sort_of.ensures _ c.in-Some.is)) c.group_text.ensures

pub value_text-shape_of-out-in-None : goal.value_text-shape_of-out-in-None
value_text-shape_of-out-in-None t c = c.leaf_text.auto.out

pub value_text-returns-in-None : goal.value_text-returns-in-None
value_text-returns-in-None t c =
    put_as (ap tree_text (value_leaf c.args.table.now c.args.text.now c.args.store.now c.args.left c.args.i (value_there c.args.table.now c.args.text.now c.args.store.now c.args.left c.args.i c.requires.1) _ c.sort_of.ensures c.in-None.is)) c.leaf_text.ensures
