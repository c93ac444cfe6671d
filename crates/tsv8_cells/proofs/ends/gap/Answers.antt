use mathlib.Core.Path.{refl, sym, ◌∙◌}
use native.Mathlib.Omega.{arith}
use Rattle.tsv8_cells.proofs.Places.{gap_more, gap_stop, gap_end}
use Rattle.tsv8_cells.proofs.ends.gap.Goals as goal

pub loop-at-init : goal.loop-at-init
loop-at-init c = (c.requires, refl)

pub returns-then-not-is_gap : goal.returns-then-not-is_gap
returns-then-not-is_gap c = gap_stop _ _ _ c.loop-at.invariant.1 c.loop-at-test.true (sym c.is_gap.ensures ∙ c.if-not-is_gap.true)

pub loop-at-preserved : goal.loop-at-preserved
loop-at-preserved c = (omega arith, gap_more _ _ _ c.loop-at.invariant.1 c.loop-at-test.true (sym c.is_gap.ensures ∙ c.if-not-is_gap.false))

pub returns : goal.returns
returns c = omega (arith, gap_end _ _ _ c.loop-at.invariant.1 c.loop-at-test.false)
