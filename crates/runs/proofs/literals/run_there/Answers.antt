-- No run where no literal character stands, or what `inner_run` says.
use Rattle.runs.proofs.LiteralRuns.{here, stopped}
use Rattle.runs.proofs.literals.run_there.Goals as goal

pub returns-then-ends : goal.returns-then-ends
returns-then-ends c = stopped _ _ _ _ (here _ _ _ c.requires) (c.ends.ensures c.if-ends.true)
