-- Each part goes on where the one before it ended (Fronts).
use Rattle.bytewise.proofs.Fronts.{onward_then}
use Rattle.bytewise.proofs.front.put_ascii.Goals as goal

pub returns : goal.returns
returns c = (c.put_last.ensures.0, onward_then c.args.s.now _ _ _ _ _ _ c.put_blocks-a.ensures.1 c.put_last.ensures.1)
