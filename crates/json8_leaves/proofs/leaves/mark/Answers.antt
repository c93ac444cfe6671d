-- A byte above # begins no blank (Single).
use Rattle.json8_leaves.proofs.Single.{here_step, not_space}
use Rattle.json8_leaves.proofs.leaves.mark.Goals as goal

pub returns-then-x-gt35 : goal.returns-then-x-gt35
returns-then-x-gt35 c = here_step _ _ _ c.byte_at-x.ensures (not_space _ c.if-x-gt35.true)
