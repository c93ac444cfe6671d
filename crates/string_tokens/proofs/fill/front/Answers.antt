-- Of eight bytes those before the first mark, or one byte (Filling).
use native.Mathlib.Omega.{arith}
use Prim.Native.Nat.{◌+◌}
use lib.Dec.{eqb}
use lib.ListN.{get_or}
use Rattle.string_tokens.proofs.Counting.{none_marked}
use Rattle.string_tokens.proofs.Filling.{front_eight, front_none, front_one}
use Rattle.string_tokens.proofs.fill.front.Goals as goal

pub copy-requires : goal.copy-requires
copy-requires c = omega (arith, c.requires, c.if-out-o-ge8.true)

pub eight-requires : goal.eight-requires
eight-requires c = omega (arith, c.requires, c.if-out-o-ge8.true)

pub returns-then-a-eq0 : goal.returns-then-a-eq0
returns-then-a-eq0 c =
    front_eight c.args.s.now c.args.out.now _ _ _ _ (omega (arith, c.requires, c.if-out-o-ge8.true)) (omega (arith, c.requires, c.if-out-o-ge8.true)) (none_marked (λ j. eqb (get_or c.args.s.now (c.args.at + j) 0) 0x5c) _ (c.slashes-a.ensures (λ j. get_or c.args.s.now (c.args.at + j) 0) c.eight.ensures.1 c.eight.ensures.0) c.if-a-eq0.true) c.copy.ensures

pub returns-then-out-o-ge8 : goal.returns-then-out-o-ge8
returns-then-out-o-ge8 c =
    front_eight c.args.s.now c.args.out.now _ _ _ _ (omega (arith, c.requires, c.if-out-o-ge8.true)) (omega (arith, c.requires, c.if-out-o-ge8.true)) (c.place.ensures (λ j. eqb (get_or c.args.s.now (c.args.at + j) 0) 0x5c) (c.slashes-a.ensures (λ j. get_or c.args.s.now (c.args.at + j) 0) c.eight.ensures.1 c.eight.ensures.0)) c.copy.ensures

pub returns-then-b-eq92 : goal.returns-then-b-eq92
returns-then-b-eq92 c = front_none c.args.s.now c.args.out.now _ _ _ c.requires.0 c.requires.1 c.byte_at-b.ensures c.if-b-eq92.true

pub returns : goal.returns
returns c = front_one c.args.s.now c.args.out.now _ _ _ c.requires.0 c.requires.1 c.byte_at-b.ensures c.if-b-eq92.false
