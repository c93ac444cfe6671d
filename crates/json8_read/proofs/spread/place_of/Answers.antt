-- A part of the number.
use Rattle.json8_read.specs.inner.Spread.{node_of}
use mathlib.Core.Path.{refl}
use Rattle.json8_read.proofs.spread.place_of.Goals as goal

pub returns : goal.returns
unfolding node_of
returns c = refl
