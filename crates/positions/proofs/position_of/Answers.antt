use native.Mathlib.Omega.{arith}
use Rattle.positions.proofs.Reading.{reading_first, reading_next, reading_last}
use Rattle.positions.proofs.position_of.Goals as goal

pub loop-i-init : goal.loop-i-init
loop-i-init c = (reading_first _ _, omega arith, c.least-end.ensures.0, c.least-end.ensures.1)

pub loop-i-preserved : goal.loop-i-preserved
loop-i-preserved c =
    (reading_next _ _ _ _ c.loop-i.invariant.0 _ (omega arith) (omega arith) c.behind_byte-p.ensures.value c.behind_byte-p.ensures.line_bound.0 c.behind_byte-p.ensures.line_bound.1, omega arith, c.loop-i.invariant.2, c.loop-i.invariant.3)

pub returns : goal.returns
returns c = reading_last _ _ _ _ c.loop-i.invariant.0 _ c.least-end.ensures.2 c.least-end.ensures.3 (omega arith)
