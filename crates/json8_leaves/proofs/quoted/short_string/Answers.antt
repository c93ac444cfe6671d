-- A token without a backslash, noted (Single).
use Rattle.json8_leaves.proofs.Single.{short_full, short_got}
use Rattle.json8_leaves.proofs.quoted.short_string.Goals as goal

pub returns-then-n-ge-NODE_MAX : goal.returns-then-n-ge-NODE_MAX
returns-then-n-ge-NODE_MAX c = rw c.at.ensures (short_full _ _ _ _ c.if-n-ge-NODE_MAX.true)

pub returns : goal.returns
returns c = short_got _ _ _ _ _ c.if-n-ge-NODE_MAX.false c.requires.0 c.note.ensures
