-- The first odd byte of eight, or of the next eight (Quoting).
use native.Mathlib.Omega.{arith}
use Prim.Native.Nat.{◌+◌}
use lib.ListN.{get_or}
use Rattle.eights.specs.inner.Words.{is_odd, First}
use Rattle.string_tokens.proofs.Quoting.{first_eight, next_eight}
use Rattle.string_tokens.proofs.quoted.short.Goals as goal

pub closed-requires : goal.closed-requires
closed-requires c =
    let f : First (λ j. is_odd (get_or c.args.s.now (1 + j) 0)) 8 c.place-k.result = c.place-k.ensures (λ j. is_odd (get_or c.args.s.now (1 + j) 0)) (c.odds.ensures (λ j. get_or c.args.s.now (1 + j) 0) c.eight.ensures.1 c.eight.ensures.0) in
    (c.requires, omega (arith, c.if-s-lt18.false, c.if-k-lt8.true), omega (arith, c.if-k-lt8.true), first_eight c.args.s.now (omega (arith, c.if-s-lt18.false)) _ f)

pub overflow_add-place : goal.overflow_add-place
overflow_add-place c =
    let f : First (λ j. is_odd (get_or c.args.s.now (9 + j) 0)) 8 c.place.result = c.place.ensures (λ j. is_odd (get_or c.args.s.now (9 + j) 0)) (c.odds-2.ensures (λ j. get_or c.args.s.now (9 + j) 0) c.eight-2.ensures.1 c.eight-2.ensures.0) in
    record { fits = omega (arith, f.inside) }

pub closed-requires-2 : goal.closed-requires-2
closed-requires-2 c =
    let f : First (λ j. is_odd (get_or c.args.s.now (1 + j) 0)) 8 c.place-k.result = c.place-k.ensures (λ j. is_odd (get_or c.args.s.now (1 + j) 0)) (c.odds.ensures (λ j. get_or c.args.s.now (1 + j) 0) c.eight.ensures.1 c.eight.ensures.0) in
    let g : First (λ j. is_odd (get_or c.args.s.now (9 + j) 0)) 8 c.place.result = c.place.ensures (λ j. is_odd (get_or c.args.s.now (9 + j) 0)) (c.odds-2.ensures (λ j. get_or c.args.s.now (9 + j) 0) c.eight-2.ensures.1 c.eight-2.ensures.0) in
    (c.requires, omega (arith, c.if-s-lt18.false, g.inside), omega (arith, g.inside), next_eight c.args.s.now (omega (arith, c.if-s-lt18.false)) _ f _ (omega (arith, c.if-k-lt8.false)) g)

pub returns : goal.returns
returns c = c.closed-2.ensures
