-- The quote, and ASCII from there on (Fronts).
use lib.ListN.{length-set}
use mathlib.Core.Path.{◌∙◌}
use Rattle.bytewise.proofs.Fronts.{front_none}
use Rattle.bytewise.proofs.front.put_front.Goals as goal

pub put_ascii-requires : goal.put_ascii-requires
put_ascii-requires c = simp length-set c.requires

pub shape_of-out : goal.shape_of-out
shape_of-out c = c.put_ascii.auto.out ∙ length-set c.args.out.now 0 34

pub returns : goal.returns
returns c = c.put_ascii.ensures.1 _ (front_none _ c.args.out.now)
