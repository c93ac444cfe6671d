-- The root's count, and then the root as the one member of its nodes (Roots).
use native.Mathlib.Omega.{arith}
use Rattle.json8_fit.proofs.Roots.{whole_many, whole_outside, whole_value}
use Rattle.json8_fit.proofs.fitness.fit.Goals as goal

pub returns-then-count-gt-NODE_MAX : goal.returns-then-count-gt-NODE_MAX
returns-then-count-gt-NODE_MAX c = whole_many c.args.table.now c.args.text.now c.args.store.now _ c.count_at-count.ensures.0 c.if-count-gt-NODE_MAX.true

pub returns-then-table-count : goal.returns-then-table-count
returns-then-table-count c = whole_outside c.args.table.now c.args.text.now c.args.store.now _ c.count_at-count.ensures.0 c.if-count-gt-NODE_MAX.false c.if-table-count.true

pub are_members-requires : goal.are_members-requires
are_members-requires c = omega (arith, c.if-count-gt-NODE_MAX.false)

pub returns : goal.returns
returns c =
    whole_value c.args.table.now c.args.text.now c.args.store.now _ c.count_at-count.ensures.0 c.if-count-gt-NODE_MAX.false c.if-table-count.false c.are_members.ensures
