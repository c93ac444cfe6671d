use Prim.Native.Nat.{◌-◌}
use native.Mathlib.Omega.{arith}
use mathlib.Core.Path.{sym, ◌∙◌}
use Rattle.utf8.proofs.FaultSteps.{begun, told, roomy, cut, on, tail_low}
use Rattle.utf8.proofs.chars.fault_from.Goals as goal

pub loop-k-init : goal.loop-k-init
loop-k-init c = begun _ _ _ _ c.requires c.wanted-n.ensures c.start_bits-v.ensures

pub returns-then-not-in_range : goal.returns-then-not-in_range
returns-then-not-in_range c = cut c.loop-k.invariant (omega arith) _ c.byte_at-b.ensures (sym c.in_range.ensures ∙ c.if-not-in_range.true)

pub overflow_mul-v : goal.overflow_mul-v
overflow_mul-v c = omega (arith, roomy c.loop-k.invariant (omega arith))

pub overflow_sub-v : goal.overflow_sub-v
overflow_sub-v c = tail_low _ (sym c.in_range.ensures ∙ c.if-not-in_range.false)

pub overflow_add-v : goal.overflow_add-v
overflow_add-v c = omega (arith, roomy c.loop-k.invariant (omega arith))

pub loop-k-preserved : goal.loop-k-preserved
loop-k-preserved c = on c.loop-k.invariant (omega arith) _ c.byte_at-b.ensures (sym c.in_range.ensures ∙ c.if-not-in_range.false)

pub returns : goal.returns
returns c = told c.loop-k.invariant _ _ (omega arith) c.least_of.ensures c.value_fault.ensures
