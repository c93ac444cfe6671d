-- By whether it could be read back (Ends).
use Rattle.command_outputs.proofs.Ends.{ended_printed}
use Rattle.command_tables.proofs.Ends.{written_long, written_short}
use Rattle.command_tables.proofs.print_written.Goals as goal

pub returns-then-n-gt-TEXT_MAX : goal.returns-then-n-gt-TEXT_MAX
returns-then-n-gt-TEXT_MAX c = written_long c.args.n c.if-n-gt-TEXT_MAX.true

pub returns : goal.returns
returns c = written_short c.args.n _ c.if-n-gt-TEXT_MAX.false (ended_printed _ _ c.ended.ensures)
