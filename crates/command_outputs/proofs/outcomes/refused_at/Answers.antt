-- The position is the definition's (Ends).
use Rattle.command_outputs.proofs.Ends.{refused_there}
use Rattle.command_outputs.proofs.outcomes.refused_at.Goals as goal

pub returns : goal.returns
returns c = refused_there c.args.text.now c.args.number c.args.place _ c.position_of-p.ensures
