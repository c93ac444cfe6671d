-- By the kind (Parts).
use Rattle.command_sheets.proofs.Parts.{string_there}
use Rattle.command_sheets.proofs.is_string.Goals as goal

pub returns : goal.returns
returns c = string_there c.args.table.now c.args.at c.number_in.ensures
