-- A node of its own text, noted where there is room (Single).
use Rattle.json8_leaves.proofs.Single.{plain_full, plain_got}
use Rattle.json8_leaves.proofs.leaves.plain_node.Goals as goal

pub returns-then-n-ge-NODE_MAX : goal.returns-then-n-ge-NODE_MAX
returns-then-n-ge-NODE_MAX c = rw c.at.ensures (plain_full _ _ _ _ _ c.if-n-ge-NODE_MAX.true)

pub returns : goal.returns
returns c = plain_got _ _ _ _ _ _ c.if-n-ge-NODE_MAX.false c.requires.0 c.requires.2 c.requires.1 c.note.ensures
