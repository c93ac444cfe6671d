-- The two blocks hold all before the last byte, so the run reaches it (BlockLaws).
use Rattle.runs.proofs.BlockLaws.{two_alone}
use Rattle.runs.proofs.shorts.two_sixteens.Goals as goal

pub returns : goal.returns
returns c = two_alone 16 c.requires c.any_odd.ensures.0 c.any_odd-2.ensures.0 c.if-any_odd.false
