-- The run ends in the first block, or where `run_on` says.
use mathlib.Core.Path.{◌∙◌}
use native.Mathlib.Omega.{arith}
use Rattle.runs.proofs.LiteralRuns.{here, stopped}
use Rattle.runs.proofs.BlockLaws.{over_block}
use Rattle.runs.proofs.literals.inner_run.Goals as goal

pub returns-then-k-ge32 : goal.returns-then-k-ge32
returns-then-k-ge32 c =
    c.run_on-then-k-ge32.ensures ∙ (over_block _ _ _ _ c.quote_of.ensures 32 _ (here _ _ _ c.requires) (omega arith) (λ j h. c.first_odd-k.ensures j h (omega arith))).same

pub returns-then-ends : goal.returns-then-ends
returns-then-ends c =
    stopped _ _ _ _ (over_block _ _ _ _ c.quote_of.ensures c.first_odd-k.result _ (here _ _ _ c.requires) (omega arith) (λ j h. c.first_odd-k.ensures j (omega arith) h)) (c.ends.ensures c.if-ends.true)

pub returns : goal.returns
returns c =
    c.run_on-2.ensures ∙ (over_block _ _ _ _ c.quote_of.ensures c.first_odd-k.result _ (here _ _ _ c.requires) (omega arith) (λ j h. c.first_odd-k.ensures j (omega arith) h)).same
