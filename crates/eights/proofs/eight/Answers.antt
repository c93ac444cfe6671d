-- The front of the rest is the word at the place.
use mathlib.Core.Path.{refl}
use Rattle.eights.proofs.Marks.{of_part}
use Rattle.eights.proofs.eight.Goals as goal

pub returns : goal.returns
returns c = of_part c.args.s.now c.args.at _ _ refl c.front.ensures
