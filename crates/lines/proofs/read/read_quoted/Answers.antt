-- What the blocks passed is the beginning of the run; with or without the table the line is told as the definition has it.
use Rattle.lines.proofs.LineAnswers.{mark_fits}
use Rattle.lines.proofs.read.read_quoted.Goals as goal

pub strides-at-requires : goal.strides-at-requires
strides-at-requires c = mark_fits _ _ _ c.requires

pub read_literal-requires : goal.read_literal-requires
read_literal-requires c = (c.requires, c.strides-at.ensures, c.closes.ensures.0 c.if-closes.true)

pub read_marked-requires : goal.read_marked-requires
read_marked-requires c = (c.requires, c.strides-at.ensures)
