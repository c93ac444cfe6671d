use native.Mathlib.Omega.{arith}
use Rattle.runs.proofs.LiteralRuns.{here, further}
use Rattle.runs.proofs.BlockLaws.{over_block}
use Rattle.runs.proofs.blocks.thirty_twos.Goals as goal

pub loop-at-init : goal.loop-at-init
loop-at-init c = here _ _ _ c.requires

pub returns-then-k-lt32 : goal.returns-then-k-lt32
returns-then-k-lt32 c = over_block _ _ _ _ c.quote_of.ensures c.first_odd-k.result _ c.loop-at.invariant (omega arith) (λ j h. c.first_odd-k.ensures j (omega arith) h)

pub loop-at-preserved : goal.loop-at-preserved
loop-at-preserved c = over_block _ _ _ _ c.quote_of.ensures 32 _ c.loop-at.invariant (omega arith) (λ j h. c.first_odd-k.ensures j h (omega arith))

pub returns : goal.returns
returns c = further _ _ _ _ _ c.loop-at.invariant c.one_by_one.ensures
