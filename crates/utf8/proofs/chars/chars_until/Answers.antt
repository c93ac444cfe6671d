use native.Mathlib.Omega.{arith}
use Prim.Native.Nat.{◌-◌}
use Rattle.utf8.proofs.Validity.{here, one_on, lone_stop, cut_stop, long_on, all_on}
use Rattle.utf8.proofs.chars.chars_until.Goals as goal

pub loop-at-init : goal.loop-at-init
loop-at-init c = here _ _ c.requires.0

pub loop-at-preserved-then-k-lt5 : goal.loop-at-preserved-then-k-lt5
loop-at-preserved-then-k-lt5 c = one_on _ _ _ _ c.loop-at.invariant (omega (arith, c.requires)) c.class-k.ensures c.if-k-lt5.true

pub returns-then-k-lt6 : goal.returns-then-k-lt6
returns-then-k-lt6 c = lone_stop _ _ _ _ c.loop-at.invariant (omega (arith, c.requires)) c.class-k.ensures _ c.if-k-lt5.false c.if-k-lt6.true

pub returns-then-n-eq0 : goal.returns-then-n-eq0
returns-then-n-eq0 c = cut_stop _ _ _ _ c.loop-at.invariant (omega (arith, c.requires)) c.class-k.ensures _ c.near_len-n.ensures c.if-k-lt6.false _ c.if-n-eq0.true

pub overflow_add-at-in-loop-at : goal.overflow_add-at-in-loop-at
overflow_add-at-in-loop-at c =
    let m = long_on _ _ _ _ c.loop-at.invariant (omega (arith, c.requires)) c.class-k.ensures _ c.near_len-n.ensures c.if-k-lt6.false c.if-n-eq0.false in omega (arith, m.inside)

pub loop-at-smaller : goal.loop-at-smaller
loop-at-smaller c =
    let m = long_on _ _ _ _ c.loop-at.invariant (omega (arith, c.requires)) c.class-k.ensures _ c.near_len-n.ensures c.if-k-lt6.false c.if-n-eq0.false in omega (arith, m.inside)

pub loop-at-preserved : goal.loop-at-preserved
loop-at-preserved c = long_on _ _ _ _ c.loop-at.invariant (omega (arith, c.requires)) c.class-k.ensures _ c.near_len-n.ensures c.if-k-lt6.false c.if-n-eq0.false

pub returns : goal.returns
returns c = all_on _ _ _ _ c.loop-at.invariant (omega arith)
