-- The four numbers of a node stand in one, each below the next one's unit.
use mathlib.Core.Path.{refl}
use Rattle.json8_leaves.specs.inner.Told.{noted}
use Rattle.json8_leaves.proofs.nodes.note.Goals as goal

pub returns : goal.returns
unfolding noted
returns c = rw (c.wide.ensures, c.wide-2.ensures, c.wide-3.ensures) refl
