use mathlib.Core.Path.{sym, ◌∙◌}
use native.Mathlib.Omega.{arith}
use Rattle.lines.proofs.LineEnds.{lead_more, lead_stop, lead_end}
use Rattle.lines.proofs.strip.lead.Goals as goal

pub returns-then-not-is_blank : goal.returns-then-not-is_blank
returns-then-not-is_blank c = lead_stop c.args.s.now c.loop-i.i c.loop-i.invariant.1 (omega arith) (sym c.is_blank.ensures ∙ c.if-not-is_blank.true)

pub loop-i-preserved : goal.loop-i-preserved
loop-i-preserved c = (omega arith, lead_more c.args.s.now c.loop-i.i c.loop-i.invariant.1 (omega arith) (sym c.is_blank.ensures ∙ c.if-not-is_blank.false))

pub returns : goal.returns
returns c = omega (arith, lead_end c.args.s.now c.loop-i.i c.loop-i.invariant.1 (omega arith))
