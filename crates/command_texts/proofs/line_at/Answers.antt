use native.Mathlib.Omega.{arith}
use Rattle.command_texts.proofs.TextLines.{looking_first, looking_end, looking_found, looking_line, looking_byte}
use Rattle.command_texts.proofs.line_at.Goals as goal

pub loop-i-init : goal.loop-i-init
loop-i-init c = looking_first c.args.s.now c.args.n

pub returns-then-left-eq0 : goal.returns-then-left-eq0
returns-then-left-eq0 c = (c.loop-i.invariant.inside, looking_found _ _ _ _ c.loop-i.invariant c.loop-i-test.true c.if-left-eq0.true)

pub loop-i-preserved-then-s-i-ne10 : goal.loop-i-preserved-then-s-i-ne10
loop-i-preserved-then-s-i-ne10 c = looking_byte _ _ _ _ c.loop-i.invariant c.loop-i-test.true c.if-left-eq0.false c.if-s-i-ne10.true

pub overflow_sub-left : goal.overflow_sub-left
overflow_sub-left c = omega (arith, c.if-left-eq0.false)

pub loop-i-preserved : goal.loop-i-preserved
loop-i-preserved c = looking_line _ _ _ _ c.loop-i.invariant c.loop-i-test.true c.if-left-eq0.false c.if-s-i-ne10.false

pub returns : goal.returns
returns c = (omega arith, looking_end _ _ _ _ c.loop-i.invariant c.loop-i-test.false)
