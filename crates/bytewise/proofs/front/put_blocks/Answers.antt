use native.Mathlib.Omega.{arith}
use mathlib.Core.Path.{refl, ◌∙◌}
use Rattle.bytewise.proofs.Fronts.{front_block, onward_then}
use Rattle.bytewise.proofs.front.put_blocks.Goals as goal

pub loop-at-init : goal.loop-at-init
loop-at-init c = (omega arith, refl, λ o f. f)

pub returns-then-any_odd : goal.returns-then-any_odd
returns-then-any_odd c = (c.loop-at.invariant.0, c.loop-at.invariant.2)

pub put_sixteen-requires : goal.put_sixteen-requires
put_sixteen-requires c = (omega arith, omega (arith, c.requires, c.loop-at.invariant.1))

pub loop-at-preserved : goal.loop-at-preserved
loop-at-preserved c =
    (omega arith, c.put_sixteen.auto.out ∙ c.loop-at.invariant.1, onward_then _ _ _ _ _ _ _ c.loop-at.invariant.2 (front_block _ _ 16 _ _ (omega arith) (c.any_odd.ensures.0 c.if-any_odd.false) c.put_sixteen.ensures))

pub returns : goal.returns
returns c = (c.loop-at.invariant.0, c.loop-at.invariant.2)
