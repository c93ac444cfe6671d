use mathlib.Core.Path.{◌∙◌}
use native.Mathlib.Omega.{arith}
use Rattle.runs.proofs.BlockLaws.{first_more}
use Rattle.runs.proofs.blocks.first_odd.Goals as goal

pub loop-k-init : goal.loop-k-init
loop-k-init c = (omega arith, λ j h. absurd (omega arith))

pub loop-k-preserved : goal.loop-k-preserved
loop-k-preserved c =
    (omega arith, first_more c.args.q c.args.s.now c.args.at c.loop-k.k c.loop-k.first c.place_of.result c.lesser-first.result c.odd.result c.loop-k.invariant.1 c.odd.ensures.0 (λ e. c.place_of.ensures e) c.lesser-first.ensures.0 c.lesser-first.ensures.1)

pub returns : goal.returns
returns c = λ k h l. c.loop-k.invariant.1 k (omega arith) (omega arith)
