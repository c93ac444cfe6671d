use native.Mathlib.Omega.{arith}
use Prim.Native.Nat.{◌+◌}
use lib.ListN.{get_or}
use Rattle.eights.specs.inner.Words.{is_odd, First}
use Rattle.string_tokens.proofs.Counting.{no_plains, none_marked, eight_plains}
use Rattle.string_tokens.proofs.quoted.plains_on.Goals as goal

pub loop-at-init : goal.loop-at-init
loop-at-init c = no_plains _ _ c.requires

pub overflow_sub-s : goal.overflow_sub-s
overflow_sub-s c = omega (arith, c.loop-at.invariant.inside)

pub eight-requires : goal.eight-requires
eight-requires c = omega (arith, c.loop-at.invariant.inside)

pub odds-a-requires : goal.odds-a-requires
odds-a-requires c = tt

pub place-requires : goal.place-requires
place-requires c = tt

pub overflow_add-result : goal.overflow_add-result
overflow_add-result c =
    let f : First (λ j. is_odd (get_or c.args.s.now (c.loop-at.at + j) 0)) 8 c.place.result = c.place.ensures (λ j. is_odd (get_or c.args.s.now (c.loop-at.at + j) 0)) (c.odds-a.ensures (λ j. get_or c.args.s.now (c.loop-at.at + j) 0) c.eight.ensures.1 c.eight.ensures.0) in
    record { fits = omega (arith, f.inside, c.loop-at.invariant.inside) }

pub returns-then-a-ne0 : goal.returns-then-a-ne0
returns-then-a-ne0 c =
    eight_plains c.args.s.now _ _ _ c.loop-at.invariant (omega (arith, c.loop-at.invariant.inside)) (c.place.ensures (λ j. is_odd (get_or c.args.s.now (c.loop-at.at + j) 0)) (c.odds-a.ensures (λ j. get_or c.args.s.now (c.loop-at.at + j) 0) c.eight.ensures.1 c.eight.ensures.0))

pub overflow_add-at : goal.overflow_add-at
overflow_add-at c = omega (arith, c.loop-at.invariant.inside)

pub loop-at-smaller : goal.loop-at-smaller
loop-at-smaller c = omega (arith, c.loop-at.invariant.inside)

pub loop-at-preserved : goal.loop-at-preserved
loop-at-preserved c =
    eight_plains c.args.s.now _ _ _ c.loop-at.invariant (omega (arith, c.loop-at.invariant.inside)) (none_marked (λ j. is_odd (get_or c.args.s.now (c.loop-at.at + j) 0)) _ (c.odds-a.ensures (λ j. get_or c.args.s.now (c.loop-at.at + j) 0) c.eight.ensures.1 c.eight.ensures.0) c.if-a-ne0.false)

pub returns : goal.returns
returns c = c.loop-at.invariant
