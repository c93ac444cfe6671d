use native.Mathlib.Omega.{arith}
use mathlib.Core.Path.{refl, ◌∙◌}
use Rattle.units.proofs.SingleLaws.{plain_unit, slash_unit}
use Rattle.strings.proofs.Advancing.{nothing_yet, one_inside, and_one}
use Rattle.strings.proofs.singles.singles_before.Goals as goal

pub loop-at-init : goal.loop-at-init
loop-at-init c = (nothing_yet c.args.style c.args.s.now c.args.from c.args.o c.args.out.now c.requires.0, refl)

pub bounds-s-at : goal.bounds-s-at
bounds-s-at c = omega (arith, (c.requires.2 (omega (arith, c.loop-at.invariant.0.onward))))

pub overflow_add-at : goal.overflow_add-at
overflow_add-at c = omega (arith, (c.requires.2 (omega (arith, c.loop-at.invariant.0.onward))))

pub overflow_add-count : goal.overflow_add-count
overflow_add-count c = omega (arith, (c.requires.2 (omega (arith, c.loop-at.invariant.0.onward))), c.loop-at.invariant.0.less, c.requires.1)

pub loop-at-smaller-then-class-eq0 : goal.loop-at-smaller-then-class-eq0
loop-at-smaller-then-class-eq0 c = omega (arith, (c.requires.2 (omega (arith, c.loop-at.invariant.0.onward))))

pub loop-at-preserved-then-class-eq0 : goal.loop-at-preserved-then-class-eq0
loop-at-preserved-then-class-eq0 c =
    (and_one c.loop-at.invariant.0 1 _ _ (plain_unit c.args.style c.args.s.now c.loop-at.at (omega (arith, (c.requires.2 (omega (arith, c.loop-at.invariant.0.onward))))) _ c.class.ensures c.if-class-eq0.true) c.put.ensures, c.put.auto.out ∙ c.loop-at.invariant.1)

pub shape_of-out-then-b-ne92 : goal.shape_of-out-then-b-ne92
shape_of-out-then-b-ne92 c = c.loop-at.invariant.1

pub returns-then-b-ne92 : goal.returns-then-b-ne92
returns-then-b-ne92 c = c.loop-at.invariant.0

pub overflow_add-at-in-loop-at : goal.overflow_add-at-in-loop-at
overflow_add-at-in-loop-at c = omega (arith, (c.requires.2 (omega (arith, c.loop-at.invariant.0.onward))))

pub single_at-requires : goal.single_at-requires
single_at-requires c = omega (arith, (c.requires.2 (omega (arith, c.loop-at.invariant.0.onward))))

pub shape_of-out-in-None : goal.shape_of-out-in-None
shape_of-out-in-None c = c.loop-at.invariant.1

pub returns-in-None : goal.returns-in-None
returns-in-None c = c.loop-at.invariant.0

pub overflow_add-at-in-Some : goal.overflow_add-at-in-Some
overflow_add-at-in-Some c =
    omega (arith, one_inside c.args.style c.args.s.now c.loop-at.at _ _ c.loop-at.invariant.0.inside (slash_unit c.args.style c.args.s.now c.loop-at.at (omega (arith, (c.requires.2 (omega (arith, c.loop-at.invariant.0.onward))))) c.if-b-ne92.false ∙ c.in-Some.ensures.1))

pub overflow_add-count-in-Some : goal.overflow_add-count-in-Some
overflow_add-count-in-Some c = omega (arith, (c.requires.2 (omega (arith, c.loop-at.invariant.0.onward))), c.loop-at.invariant.0.less, c.requires.1)

pub loop-at-smaller : goal.loop-at-smaller
loop-at-smaller c =
    omega (arith, c.in-Some.ensures.0, one_inside c.args.style c.args.s.now c.loop-at.at _ _ c.loop-at.invariant.0.inside (slash_unit c.args.style c.args.s.now c.loop-at.at (omega (arith, (c.requires.2 (omega (arith, c.loop-at.invariant.0.onward))))) c.if-b-ne92.false ∙ c.in-Some.ensures.1))

pub loop-at-preserved : goal.loop-at-preserved
loop-at-preserved c =
    (and_one c.loop-at.invariant.0 _ _ _ (slash_unit c.args.style c.args.s.now c.loop-at.at (omega (arith, (c.requires.2 (omega (arith, c.loop-at.invariant.0.onward))))) c.if-b-ne92.false ∙ c.in-Some.ensures.1) c.put-in-Some.ensures, c.put-in-Some.auto.out ∙ c.loop-at.invariant.1)

pub shape_of-out : goal.shape_of-out
shape_of-out c = c.loop-at.invariant.1

pub returns : goal.returns
returns c = c.loop-at.invariant.0
