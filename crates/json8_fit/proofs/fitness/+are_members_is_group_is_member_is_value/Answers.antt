use mathlib.Core.Path.{refl, sym, ap, ◌∙◌}
use native.Mathlib.Omega.{arith}
use Rattle.trees.specs.Trees.{Tree}
use Rattle.trees.specs.Tables.{Maybe}
use Rattle.json8_fit.specs.Fitness.{is_fit}
use Rattle.json8_fit.proofs.TableNodes.{count_there}
use Rattle.json8_fit.proofs.Choices.{value_end, value_group, value_leaf}
use Rattle.json8_fit.proofs.Fitting.{member_long, member_unlabelled, member_value, member_room, begun, judged_unfit, judged_size, judged_on, judged_last, deep_unfit, empty_unfit, group_fit}
use Rattle.json8_fit.proofs.fitness.+are_members_is_group_is_member_is_value.Goals as goal

pub are_members-loop-more-init : goal.are_members-loop-more-init
are_members-loop-more-init t c = begun c.args.sort c.args.table.now c.args.text.now c.args.store.now c.args.left _ _ _ c.requires

pub are_members-is_member-requires : goal.are_members-is_member-requires
are_members-is_member-requires t c = (omega (arith, c.decreases), c.loop-more.invariant.bound)

pub are_members-returns-then-not-is_member : goal.are_members-returns-then-not-is_member
are_members-returns-then-not-is_member t c =
    sym (judged_unfit c.args.sort c.args.table.now c.args.text.now c.args.store.now c.args.left _ _ _ _ c.loop-more.invariant c.loop-more-test.true _ c.is_member.ensures (c.if-not-is_member.true))

pub are_members-member_size-size-requires : goal.are_members-member_size-size-requires
are_members-member_size-size-requires t c = omega (arith, c.loop-more.invariant.bound)

pub are_members-overflow_add-at : goal.are_members-overflow_add-at
are_members-overflow_add-at t c =
    omega (arith, c.loop-more.invariant.bound, judged_size c.args.sort c.args.table.now c.args.text.now c.args.store.now c.args.left _ _ _ _ c.loop-more.invariant c.loop-more-test.true _ c.is_member.ensures (c.if-not-is_member.false) _ c.member_size-size.ensures.0)

pub are_members-overflow_sub-free : goal.are_members-overflow_sub-free
are_members-overflow_sub-free t c =
    judged_size c.args.sort c.args.table.now c.args.text.now c.args.store.now c.args.left _ _ _ _ c.loop-more.invariant c.loop-more-test.true _ c.is_member.ensures (c.if-not-is_member.false) _ c.member_size-size.ensures.0

pub are_members-overflow_sub-more : goal.are_members-overflow_sub-more
are_members-overflow_sub-more t c = omega arith

pub are_members-loop-more-smaller : goal.are_members-loop-more-smaller
are_members-loop-more-smaller t c = omega arith

pub are_members-loop-more-preserved : goal.are_members-loop-more-preserved
are_members-loop-more-preserved t c =
    judged_on c.args.sort c.args.table.now c.args.text.now c.args.store.now c.args.left _ _ _ _ c.loop-more.invariant c.loop-more-test.true _ c.is_member.ensures (c.if-not-is_member.false) _ c.member_size-size.ensures.0

pub are_members-returns : goal.are_members-returns
are_members-returns t c = judged_last c.args.sort c.args.table.now c.args.text.now c.args.store.now c.args.left _ _ _ _ c.loop-more.invariant c.loop-more-test.false refl

pub is_group-returns-then-left-eq0 : goal.is_group-returns-then-left-eq0
is_group-returns-then-left-eq0 t c = deep_unfit c.args.sort c.args.table.now c.args.text.now c.args.store.now c.args.left c.args.i c.if-left-eq0.true

pub is_group-overflow_mul-i : goal.is_group-overflow_mul-i
is_group-overflow_mul-i t c = omega (arith, c.requires.0)

pub is_group-overflow_add-i : goal.is_group-overflow_add-i
is_group-overflow_add-i t c = omega (arith, c.requires.0)

pub is_group-number_in-count-requires : goal.is_group-number_in-count-requires
is_group-number_in-count-requires t c = omega (arith, c.requires.0)

pub is_group-returns-then-count-eq0 : goal.is_group-returns-then-count-eq0
is_group-returns-then-count-eq0 t c =
    empty_unfit c.args.sort c.args.table.now c.args.text.now c.args.store.now c.args.left c.args.i c.if-left-eq0.false (sym c.number_in-count.ensures.0 ∙ c.if-count-eq0.true)

pub is_group-overflow_mul-i-2 : goal.is_group-overflow_mul-i-2
is_group-overflow_mul-i-2 t c = omega (arith, c.requires.0)

pub is_group-overflow_add-i-2 : goal.is_group-overflow_add-i-2
is_group-overflow_add-i-2 t c = omega (arith, c.requires.0)

pub is_group-number_in-members-requires : goal.is_group-number_in-members-requires
is_group-number_in-members-requires t c = omega (arith, c.requires.0)

pub is_group-overflow_add-i-3 : goal.is_group-overflow_add-i-3
is_group-overflow_add-i-3 t c = omega (arith, c.requires.1)

pub is_group-overflow_sub-count : goal.is_group-overflow_sub-count
is_group-overflow_sub-count t c = omega (arith, c.if-count-eq0.false)

pub is_group-overflow_sub-left : goal.is_group-overflow_sub-left
is_group-overflow_sub-left t c = omega (arith, c.if-left-eq0.false)

pub is_group-are_members-requires : goal.is_group-are_members-requires
is_group-are_members-requires t c = (omega (arith, c.decreases, c.if-left-eq0.false), omega (arith, c.requires.1, c.number_in-count.ensures.0, c.if-count-eq0.false))

pub is_group-returns : goal.is_group-returns
is_group-returns t c =
    c.are_members.ensures ∙ group_fit c.args.sort c.args.table.now c.args.text.now c.args.store.now c.args.left c.args.i c.number_in-count.ensures.0 c.number_in-members.ensures.0 c.if-left-eq0.false c.if-count-eq0.false

pub is_member-member_size-requires : goal.is_member-member_size-requires
is_member-member_size-requires t c = omega (arith, c.requires)

pub is_member-returns-then-w-member_size : goal.is_member-returns-then-w-member_size
is_member-returns-then-w-member_size t c =
    member_long c.args.sort c.args.table.now c.args.text.now c.args.store.now c.args.left c.args.i c.args.w _ c.member_size.ensures.0 c.if-w-member_size.true

pub is_member-is_label-requires : goal.is_member-is_label-requires
is_member-is_label-requires t c = tt

pub is_member-returns-then-not-is_label : goal.is_member-returns-then-not-is_label
is_member-returns-then-not-is_label t c =
    member_unlabelled c.args.sort c.args.table.now c.args.text.now c.args.store.now c.args.left c.args.i c.args.w _ c.member_size.ensures.0 c.if-w-member_size.false (sym c.is_label.ensures ∙ c.if-not-is_label.true)

pub is_member-label_size-requires : goal.is_member-label_size-requires
is_member-label_size-requires t c = tt

pub is_member-overflow_add-i : goal.is_member-overflow_add-i
is_member-overflow_add-i t c = omega (arith, c.requires, c.label_size.ensures.1)

pub is_member-is_value-requires : goal.is_member-is_value-requires
is_member-is_value-requires t c =
    (omega (arith, c.decreases), member_room c.args.sort c.args.table.now c.args.text.now c.args.store.now c.args.left c.args.i c.args.w _ c.member_size.ensures.0 c.if-w-member_size.false _ c.label_size.ensures.0 c.requires)

pub is_member-returns : goal.is_member-returns
is_member-returns t c =
    member_value c.args.sort c.args.table.now c.args.text.now c.args.store.now c.args.left c.args.i c.args.w _ c.member_size.ensures.0 c.if-w-member_size.false _ (sym c.is_label.ensures ∙ c.if-not-is_label.false) c.label_size.ensures.0 c.is_value.ensures

pub is_value-returns-then-table-i : goal.is_value-returns-then-table-i
is_value-returns-then-table-i t c = sym (ap (λ (x : Maybe Tree). is_fit x) (value_end c.args.table.now c.args.text.now c.args.store.now c.args.left c.args.i c.if-table-i.true))

pub is_value-bounds-table-i : goal.is_value-bounds-table-i
is_value-bounds-table-i t c = omega arith

pub is_value-sort_of-requires : goal.is_value-sort_of-requires
is_value-sort_of-requires t c = tt

pub is_value-is_group-requires : goal.is_value-is_group-requires
is_value-is_group-requires t c = (omega (arith, c.decreases), (c.if-table-i.false, omega (arith, c.requires, count_there c.args.i c.args.table.now c.if-table-i.false)))

pub is_value-is_leaf-requires : goal.is_value-is_leaf-requires
is_value-is_leaf-requires t c = c.if-table-i.false

pub is_value-returns-in-Some : goal.is_value-returns-in-Some
is_value-returns-in-Some t c =
    c.is_group.ensures ∙ sym (ap (λ (x : Maybe Tree). is_fit x) (value_group c.args.table.now c.args.text.now c.args.store.now c.args.left c.args.i c.if-table-i.false _ c.sort_of.ensures _ c.in-Some.is))

pub is_value-returns-in-None : goal.is_value-returns-in-None
is_value-returns-in-None t c =
    c.is_leaf.ensures ∙ sym (ap (λ (x : Maybe Tree). is_fit x) (value_leaf c.args.table.now c.args.text.now c.args.store.now c.args.left c.args.i c.if-table-i.false _ c.sort_of.ensures c.in-None.is))
