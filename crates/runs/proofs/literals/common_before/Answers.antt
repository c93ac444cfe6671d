use Prim.Native.Nat.{◌<◌}
use native.Mathlib.Omega.{arith}
use lib.ListN.{length}
use Rattle.notation.specs.declared.styles.Style.TheVariants.{Json}
use Rattle.notation.proofs.LiteralClasses.{plain_char, two_bytes_lem, three_bytes_lem}
use Rattle.runs.proofs.LiteralRuns.{here, moved}
use Rattle.runs.proofs.literals.common_before.Goals as goal

pub loop-at-init : goal.loop-at-init
loop-at-init c = (c.requires.0, λ st. here st _ _ c.requires.0)

pub loop-at-preserved-then-k-eq0 : goal.loop-at-preserved-then-k-eq0
loop-at-preserved-then-k-eq0 c =
    let h : c.loop-at.at < length c.args.s.now = omega arith in
    ((moved Json _ _ _ 1 (c.loop-at.invariant.1 Json) (plain_char Json _ _ _ h c.class-k.ensures c.if-k-eq0.true)).inside, λ st. moved st _ _ _ 1 (c.loop-at.invariant.1 st) (plain_char st _ _ _ h c.class-k.ensures c.if-k-eq0.true))

pub overflow_add-at-then-one_follows : goal.overflow_add-at-then-one_follows
overflow_add-at-then-one_follows c =
    let h : c.loop-at.at < length c.args.s.now = omega arith in
    omega (arith, (moved Json _ _ _ 2 (c.loop-at.invariant.1 Json) (two_bytes_lem Json _ _ _ h c.class-k.ensures c.if-k-eq6.true (c.one_follows.ensures c.if-one_follows.true))).inside)

pub loop-at-smaller-then-one_follows : goal.loop-at-smaller-then-one_follows
loop-at-smaller-then-one_follows c =
    let h : c.loop-at.at < length c.args.s.now = omega arith in
    omega (arith, (moved Json _ _ _ 2 (c.loop-at.invariant.1 Json) (two_bytes_lem Json _ _ _ h c.class-k.ensures c.if-k-eq6.true (c.one_follows.ensures c.if-one_follows.true))).inside)

pub loop-at-preserved-then-one_follows : goal.loop-at-preserved-then-one_follows
loop-at-preserved-then-one_follows c =
    let h : c.loop-at.at < length c.args.s.now = omega arith in
    ((moved Json _ _ _ 2 (c.loop-at.invariant.1 Json) (two_bytes_lem Json _ _ _ h c.class-k.ensures c.if-k-eq6.true (c.one_follows.ensures c.if-one_follows.true))).inside, λ st. moved st _ _ _ 2 (c.loop-at.invariant.1 st) (two_bytes_lem st _ _ _ h c.class-k.ensures c.if-k-eq6.true (c.one_follows.ensures c.if-one_follows.true)))

pub overflow_add-at-then-two_follow : goal.overflow_add-at-then-two_follow
overflow_add-at-then-two_follow c =
    let h : c.loop-at.at < length c.args.s.now = omega arith in
    omega (arith, (moved Json _ _ _ 3 (c.loop-at.invariant.1 Json) (three_bytes_lem Json _ _ _ h c.class-k.ensures c.if-k-eq7.true (c.two_follow.ensures c.if-two_follow.true))).inside)

pub loop-at-smaller : goal.loop-at-smaller
loop-at-smaller c =
    let h : c.loop-at.at < length c.args.s.now = omega arith in
    omega (arith, (moved Json _ _ _ 3 (c.loop-at.invariant.1 Json) (three_bytes_lem Json _ _ _ h c.class-k.ensures c.if-k-eq7.true (c.two_follow.ensures c.if-two_follow.true))).inside)

pub loop-at-preserved : goal.loop-at-preserved
loop-at-preserved c =
    let h : c.loop-at.at < length c.args.s.now = omega arith in
    ((moved Json _ _ _ 3 (c.loop-at.invariant.1 Json) (three_bytes_lem Json _ _ _ h c.class-k.ensures c.if-k-eq7.true (c.two_follow.ensures c.if-two_follow.true))).inside, λ st. moved st _ _ _ 3 (c.loop-at.invariant.1 st) (three_bytes_lem st _ _ _ h c.class-k.ensures c.if-k-eq7.true (c.two_follow.ensures c.if-two_follow.true)))
