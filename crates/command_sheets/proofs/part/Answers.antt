-- Clipped at the buffer's end, as take and drop are (Parts).
use Rattle.command_sheets.proofs.Parts.{part_is}
use Rattle.command_sheets.proofs.part.Goals as goal

pub returns : goal.returns
returns c = part_is c.args.buf.now c.args.place c.args.size c.least-from.ensures c.least-n.ensures
