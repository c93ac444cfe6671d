use native.Mathlib.Omega.{arith}
use mathlib.Core.Path.{refl, ◌∙◌}
use Rattle.bytewise.proofs.Fronts.{front_block, front_threes, threes_inside, onward_then}
use Rattle.bytewise.proofs.front.put_threes.Goals as goal

pub loop-at-init : goal.loop-at-init
loop-at-init c = (c.requires.0, refl, λ o f. f)

pub put_sixteen-requires : goal.put_sixteen-requires
put_sixteen-requires c = (omega arith, omega (arith, c.requires, c.loop-at.invariant.1))

pub loop-at-preserved-then-not-any_odd : goal.loop-at-preserved-then-not-any_odd
loop-at-preserved-then-not-any_odd c =
    (omega arith, c.put_sixteen.auto.out ∙ c.loop-at.invariant.1, onward_then _ _ _ _ _ _ _ c.loop-at.invariant.2 (front_block _ _ 16 _ _ (omega arith) (c.any_odd.ensures.0 (c.if-not-any_odd.true)) c.put_sixteen.ensures))

pub returns-then-not-any_high : goal.returns-then-not-any_high
returns-then-not-any_high c = (c.loop-at.invariant.0, c.loop-at.invariant.2)

pub returns-then-not-begins : goal.returns-then-not-begins
returns-then-not-begins c = (c.loop-at.invariant.0, c.loop-at.invariant.2)

pub returns-then-any_odd_three : goal.returns-then-any_odd_three
returns-then-any_odd_three c = (c.loop-at.invariant.0, c.loop-at.invariant.2)

pub put_through-at-requires : goal.put_through-at-requires
put_through-at-requires c = (omega arith, omega (arith, c.requires, c.loop-at.invariant.1))

pub loop-at-smaller : goal.loop-at-smaller
loop-at-smaller c = omega (arith, c.put_through-at.ensures.0, threes_inside c.args.s.now _ _ (omega arith) c.put_through-at.ensures.0)

pub loop-at-preserved : goal.loop-at-preserved
loop-at-preserved c =
    (threes_inside c.args.s.now _ _ (omega arith) c.put_through-at.ensures.0, c.put_through-at.auto.out ∙ c.loop-at.invariant.1, onward_then _ _ _ _ _ _ _ c.loop-at.invariant.2 (front_threes _ _ _ _ _ _ (omega arith) (omega arith) (omega arith) (c.begins.ensures.0 (c.if-not-begins.false)) (c.any_odd_three.ensures.0 c.if-any_odd_three.false) c.put_through-at.ensures))

pub returns : goal.returns
returns c = (c.loop-at.invariant.0, c.loop-at.invariant.2)
