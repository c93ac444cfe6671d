use mathlib.Core.Path.{refl}
use native.Mathlib.Omega.{arith}
use Rattle.tsv8_cells.proofs.Places.{scan_on, scan_tab, scan_lf, scan_end}
use Rattle.tsv8_cells.proofs.ends.end_from.Goals as goal

pub loop-at-init : goal.loop-at-init
loop-at-init c = (c.requires, refl)

pub returns-then-x-eq9 : goal.returns-then-x-eq9
returns-then-x-eq9 c = scan_tab _ _ _ c.loop-at.invariant.1 c.loop-at-test.true c.if-x-eq9.true

pub returns-then-x-eq10 : goal.returns-then-x-eq10
returns-then-x-eq10 c = scan_lf _ _ _ c.loop-at.invariant.1 c.loop-at-test.true c.if-x-eq10.true

pub loop-at-preserved : goal.loop-at-preserved
loop-at-preserved c = (omega arith, scan_on _ _ _ c.loop-at.invariant.1 c.loop-at-test.true c.if-x-eq9.false c.if-x-eq10.false)

pub returns : goal.returns
returns c = omega (arith, scan_end _ _ _ c.loop-at.invariant.1 c.loop-at-test.false)
