use native.Mathlib.Omega.{arith}
use mathlib.Core.Path.{◌∙◌}
use Rattle.json8_read.proofs.Spreading.{summed_none, summed_more, summed_all}
use Rattle.json8_read.proofs.spread.stored.Goals as goal

pub loop-i-init : goal.loop-i-init
loop-i-init c = summed_none _ _

pub overflow_add-m : goal.overflow_add-m
overflow_add-m c = let w = c.loop-i.invariant in omega (arith, w.small, w.inside, c.stored_by-m.ensures.1, c.requires.0)

pub loop-i-preserved : goal.loop-i-preserved
loop-i-preserved c =
    summed_more _ _ _ _ _ c.loop-i.invariant c.loop-i-test.true (omega (arith, c.requires.1, c.loop-i-test.true)) c.stored_by-m.ensures.0 c.stored_by-m.ensures.1

pub returns : goal.returns
returns c = c.index.ensures ∙ summed_all _ _ _ _ c.loop-i.invariant c.loop-i-test.false
