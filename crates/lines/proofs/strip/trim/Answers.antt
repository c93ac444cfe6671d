use mathlib.Core.Path.{sym, ◌∙◌}
use native.Mathlib.Omega.{arith}
use Rattle.lines.proofs.LineEnds.{trim_more, trim_found, trim_whole, trim_ended}
use Rattle.lines.proofs.strip.trim.Goals as goal

pub loop-e-init : goal.loop-e-init
loop-e-init c = (omega arith, trim_whole c.args.s.now)

pub returns-then-not-is_blank : goal.returns-then-not-is_blank
returns-then-not-is_blank c = trim_found c.args.s.now c.loop-e.e (omega arith) c.loop-e.invariant.0 c.loop-e.invariant.1 (sym c.is_blank.ensures ∙ c.if-not-is_blank.true)

pub loop-e-preserved : goal.loop-e-preserved
loop-e-preserved c =
    (omega arith, trim_more c.args.s.now c.loop-e.e (omega arith) c.loop-e.invariant.0 c.loop-e.invariant.1 (sym c.is_blank.ensures ∙ c.if-not-is_blank.false))

pub returns : goal.returns
returns c = trim_ended c.args.s.now c.loop-e.e (omega arith) c.loop-e.invariant.1
