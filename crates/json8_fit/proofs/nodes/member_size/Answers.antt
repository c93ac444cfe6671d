-- A key is one node more than its value's count (TableNodes).
use native.Mathlib.Omega.{arith}
use Rattle.json8_fit.proofs.TableNodes.{member_is}
use Rattle.json8_fit.proofs.nodes.member_size.Goals as goal

pub overflow_add-at : goal.overflow_add-at
overflow_add-at c = omega (arith, c.label_size-k.ensures.1, c.requires)

pub overflow_add-result : goal.overflow_add-result
overflow_add-result c = omega (arith, c.label_size-k.ensures.1, c.count_at.ensures.1)

pub returns : goal.returns
returns c =
    (member_is c.args.sort c.args.table.now c.args.at _ _ c.label_size-k.ensures.0 c.count_at.ensures.0, omega (arith, c.label_size-k.ensures.1, c.count_at.ensures.1))
