use Prim.Native.Nat.{suc, ◌-◌}
use mathlib.Core.Path.{◌≡◌, refl}
use lib.ListN.{drop}
use native.Mathlib.Omega.{arith}
use native.Mathlib.Numerals.{add-one}
use Rattle.line_ends.specs.inner.Ends.{line_run}
use Rattle.line_ends.proofs.Ends.{at_on, at_lf, at_end_lem}
use Rattle.line_ends.proofs.lf_near.Goals as goal

pub loop-i-init : goal.loop-i-init
loop-i-init c = (c.requires, refl)

pub returns-then-p-i-eq10 : goal.returns-then-p-i-eq10
returns-then-p-i-eq10 c = omega (arith, at_lf c.args.p.now c.loop-i.i c.loop-i-test.true c.if-p-i-eq10.true)

pub loop-i-preserved : goal.loop-i-preserved
loop-i-preserved c =
    let p : line_run (drop c.loop-i.i c.args.p.now) ≡ suc (line_run (drop (suc c.loop-i.i) c.args.p.now)) =
    at_on c.args.p.now c.loop-i.i c.loop-i-test.true c.if-p-i-eq10.false in
    (omega arith, rw add-one (omega arith))

pub returns : goal.returns
returns c = omega (arith, at_end_lem c.args.p.now c.loop-i.i (omega arith))
