use Rattle.command_outputs.proofs.Ends.{page_printed}
use Rattle.command_tables.proofs.list_nodes.Goals as goal

pub returns : goal.returns
returns c = page_printed _ _ c.outcome_of.ensures
