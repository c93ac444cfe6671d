-- One store.
use mathlib.Core.Path.{refl}
use Rattle.json8_read.proofs.spread.put.Goals as goal

pub returns : goal.returns
returns c = rw c.narrow.ensures refl
