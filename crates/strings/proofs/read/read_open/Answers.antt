-- What the blocks passed is the beginning of the run; with or without the table the answer is the definition's.
use Rattle.strings.proofs.read.read_open.Goals as goal

pub closes-requires : goal.closes-requires
closes-requires c = c.strides-at.ensures.inside

pub read_run-requires : goal.read_run-requires
read_run-requires c = (c.requires, c.strides-at.ensures, c.closes.ensures.0 c.if-closes.true)

pub read_marked-requires : goal.read_marked-requires
read_marked-requires c = (c.requires, c.strides-at.ensures)
