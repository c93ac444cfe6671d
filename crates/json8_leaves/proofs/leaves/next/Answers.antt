-- No blank, one space, or the blanks that stand there.
use Rattle.json8_leaves.proofs.Single.{here_step, next_step, not_space, no_space}
use Rattle.json8_leaves.proofs.leaves.next.Goals as goal

pub returns-then-x-gt35 : goal.returns-then-x-gt35
returns-then-x-gt35 c = here_step _ _ _ c.byte_at-x.ensures (not_space _ c.if-x-gt35.true)

pub returns-then-x-eq34 : goal.returns-then-x-eq34
returns-then-x-eq34 c = here_step _ _ _ c.byte_at-x.ensures (no_space _ c.if-x-eq34.true)

pub returns-then-y-gt35 : goal.returns-then-y-gt35
returns-then-y-gt35 c = next_step _ _ _ _ c.byte_at-x.ensures c.if-x-eq32.true c.byte_at-y.ensures (not_space _ c.if-y-gt35.true)

pub returns-then-y-eq34 : goal.returns-then-y-eq34
returns-then-y-eq34 c = next_step _ _ _ _ c.byte_at-x.ensures c.if-x-eq32.true c.byte_at-y.ensures (no_space _ c.if-y-eq34.true)
