use native.Mathlib.Omega.{arith}
use Prim.Native.Nat.{ℕ}
use lib.ListN.{take, drop}
use mathlib.Core.Path.{refl, ap, ◌∙◌}
use Rattle.strings.specs.inner.Turns.{units_bytes}
use Rattle.string_tokens.proofs.Filling.{begun, more_text, text_left, on_front, front_moves, some_bytes, on_unit, at_end_lem}
use Rattle.string_tokens.proofs.fill.fill_units.Goals as goal

pub loop-o-init : goal.loop-o-init
loop-o-init c = (begun _ c.args.s.now c.args.out.now _ c.requires.0 c.requires.1, refl)

pub front-k-requires : goal.front-k-requires
front-k-requires c =
    (more_text _ c.args.s.now (units_bytes c.args.style 0 (drop c.args.from c.args.s.now)) _ _ _ c.loop-o.invariant.0 (omega arith), omega arith, text_left _ c.args.s.now (units_bytes c.args.style 0 (drop c.args.from c.args.s.now)) _ _ _ c.loop-o.invariant.0 (omega arith))

pub overflow_add-at : goal.overflow_add-at
overflow_add-at c = omega (arith, c.front-k.ensures.inside)

pub overflow_add-o : goal.overflow_add-o
overflow_add-o c = omega (arith, c.front-k.ensures.known, c.front-k.ensures.fits)

pub loop-o-smaller-then-k-eq8 : goal.loop-o-smaller-then-k-eq8
loop-o-smaller-then-k-eq8 c = omega (arith, c.if-k-eq8.true, c.front-k.ensures.inside)

pub loop-o-preserved-then-k-eq8 : goal.loop-o-preserved-then-k-eq8
loop-o-preserved-then-k-eq8 c =
    ((on_front _ c.args.s.now (units_bytes c.args.style 0 (drop c.args.from c.args.s.now)) _ _ _ c.loop-o.invariant.0 _ _ (omega arith) c.front-k.ensures), c.front-k.auto.out ∙ c.loop-o.invariant.1)

pub shape_of-out-then-out-o : goal.shape_of-out-then-out-o
shape_of-out-then-out-o c = c.front-k.auto.out ∙ c.loop-o.invariant.1

pub returns-then-out-o : goal.returns-then-out-o
returns-then-out-o c =
    at_end_lem _ c.args.s.now (units_bytes c.args.style 0 (drop c.args.from c.args.s.now)) _ _ _ (on_front _ c.args.s.now (units_bytes c.args.style 0 (drop c.args.from c.args.s.now)) _ _ _ c.loop-o.invariant.0 _ _ (omega arith) c.front-k.ensures) (omega (arith, c.if-out-o.true)) ∙ ap (λ (k : ℕ). take k (units_bytes c.args.style 0 (drop c.args.from c.args.s.now))) (c.front-k.auto.out ∙ c.loop-o.invariant.1)

pub bounds-s-at : goal.bounds-s-at
bounds-s-at c =
    more_text _ c.args.s.now (units_bytes c.args.style 0 (drop c.args.from c.args.s.now)) _ _ _ (on_front _ c.args.s.now (units_bytes c.args.style 0 (drop c.args.from c.args.s.now)) _ _ _ c.loop-o.invariant.0 _ _ (omega arith) c.front-k.ensures) (omega (arith, c.if-out-o.false))

pub loop-o-smaller-then-s-at-ne92 : goal.loop-o-smaller-then-s-at-ne92
loop-o-smaller-then-s-at-ne92 c = omega (arith, front_moves c.args.s.now _ _ _ _ _ c.front-k.ensures c.if-s-at-ne92.true, c.front-k.ensures.inside)

pub loop-o-preserved-then-s-at-ne92 : goal.loop-o-preserved-then-s-at-ne92
loop-o-preserved-then-s-at-ne92 c =
    ((on_front _ c.args.s.now (units_bytes c.args.style 0 (drop c.args.from c.args.s.now)) _ _ _ c.loop-o.invariant.0 _ _ (omega arith) c.front-k.ensures), c.front-k.auto.out ∙ c.loop-o.invariant.1)

pub fill_escape-moved-requires : goal.fill_escape-moved-requires
fill_escape-moved-requires c =
    (more_text _ c.args.s.now (units_bytes c.args.style 0 (drop c.args.from c.args.s.now)) _ _ _ (on_front _ c.args.s.now (units_bytes c.args.style 0 (drop c.args.from c.args.s.now)) _ _ _ c.loop-o.invariant.0 _ _ (omega arith) c.front-k.ensures) (omega (arith, c.if-out-o.false)), c.if-s-at-ne92.false, omega (arith, c.if-out-o.false), some_bytes _ c.args.s.now (units_bytes c.args.style 0 (drop c.args.from c.args.s.now)) _ _ _ (on_front _ c.args.s.now (units_bytes c.args.style 0 (drop c.args.from c.args.s.now)) _ _ _ c.loop-o.invariant.0 _ _ (omega arith) c.front-k.ensures) c.if-s-at-ne92.false (omega (arith, c.if-out-o.false)))

pub loop-o-smaller : goal.loop-o-smaller
loop-o-smaller c =
    let v = on_unit _ c.args.s.now (units_bytes c.args.style 0 (drop c.args.from c.args.s.now)) _ _ _ (on_front _ c.args.s.now (units_bytes c.args.style 0 (drop c.args.from c.args.s.now)) _ _ _ c.loop-o.invariant.0 _ _ (omega arith) c.front-k.ensures) c.if-s-at-ne92.false (omega (arith, c.if-out-o.false)) _ _ _ c.fill_escape-moved.ensures in omega (arith, v.1, v.0.inside)

pub loop-o-preserved : goal.loop-o-preserved
loop-o-preserved c =
    ((on_unit _ c.args.s.now (units_bytes c.args.style 0 (drop c.args.from c.args.s.now)) _ _ _ (on_front _ c.args.s.now (units_bytes c.args.style 0 (drop c.args.from c.args.s.now)) _ _ _ c.loop-o.invariant.0 _ _ (omega arith) c.front-k.ensures) c.if-s-at-ne92.false (omega (arith, c.if-out-o.false)) _ _ _ c.fill_escape-moved.ensures).0, c.fill_escape-moved.auto.out ∙ c.front-k.auto.out ∙ c.loop-o.invariant.1)

pub shape_of-out : goal.shape_of-out
shape_of-out c = c.loop-o.invariant.1

pub returns : goal.returns
returns c =
    at_end_lem _ c.args.s.now (units_bytes c.args.style 0 (drop c.args.from c.args.s.now)) _ _ _ c.loop-o.invariant.0 (omega arith) ∙ ap (λ (k : ℕ). take k (units_bytes c.args.style 0 (drop c.args.from c.args.s.now))) c.loop-o.invariant.1
