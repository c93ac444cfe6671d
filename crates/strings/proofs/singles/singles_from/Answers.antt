use native.Mathlib.Omega.{arith}
use mathlib.Core.Path.{refl, ◌∙◌}
use Rattle.strings.proofs.Advancing.{nothing_yet, and_part}
use Rattle.strings.proofs.singles.singles_from.Goals as goal

pub loop-style-init : goal.loop-style-init
loop-style-init c = (nothing_yet c.args.style c.args.s.now c.args.from c.args.o c.args.out.now c.requires.0, refl)

pub stretch-end-requires : goal.stretch-end-requires
stretch-end-requires c = c.loop-style.invariant.0.inside

pub singles_before-next-requires : goal.singles_before-next-requires
singles_before-next-requires c =
    (c.loop-style.invariant.0.inside, omega (arith, c.loop-style.invariant.0.less, c.loop-style.invariant.0.onward, c.requires.1), c.stretch-end.ensures)

pub shape_of-out-then-next-end : goal.shape_of-out-then-next-end
shape_of-out-then-next-end c = c.singles_before-next.auto.out ∙ c.loop-style.invariant.1

pub returns-then-next-end : goal.returns-then-next-end
returns-then-next-end c = and_part c.loop-style.invariant.0 _ _ _ c.singles_before-next.ensures

pub overflow_sub-next : goal.overflow_sub-next
overflow_sub-next c = c.singles_before-next.ensures.onward

pub overflow_sub-next-in-loop-style : goal.overflow_sub-next-in-loop-style
overflow_sub-next-in-loop-style c = omega (arith, c.singles_before-next.ensures.count)

pub shape_of-out-then-next-at : goal.shape_of-out-then-next-at
shape_of-out-then-next-at c = c.singles_before-next.auto.out ∙ c.loop-style.invariant.1

pub returns-then-next-at : goal.returns-then-next-at
returns-then-next-at c = and_part c.loop-style.invariant.0 _ _ _ c.singles_before-next.ensures

pub loop-style-smaller : goal.loop-style-smaller
loop-style-smaller c =
    omega (arith, c.singles_before-next.ensures.onward, c.singles_before-next.ensures.less, c.singles_before-next.ensures.count, c.singles_before-next.ensures.inside)

pub loop-style-preserved : goal.loop-style-preserved
loop-style-preserved c = (and_part c.loop-style.invariant.0 _ _ _ c.singles_before-next.ensures, c.singles_before-next.auto.out ∙ c.loop-style.invariant.1)
