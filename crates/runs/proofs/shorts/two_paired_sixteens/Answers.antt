-- The two blocks hold all before the last byte, so the run reaches it, or the byte behind it (BlockLaws).
use Rattle.runs.proofs.BlockLaws.{two_paired}
use Rattle.runs.proofs.shorts.two_paired_sixteens.Goals as goal

pub returns : goal.returns
returns c =
    two_paired 16 c.requires c.continues.ensures c.if-continues.false c.any_odd_pair.ensures c.any_odd_pair-2.ensures c.if-any_odd_pair.false c.behind.ensures
