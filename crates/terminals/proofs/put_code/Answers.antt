-- One byte's digits behind another's (Puts).
use Rattle.rooms.proofs.Puts.{put_then}
use Rattle.terminals.proofs.put_code.Goals as goal

pub returns : goal.returns
returns c = put_then c.put_digits-p.ensures c.put_digits.ensures
