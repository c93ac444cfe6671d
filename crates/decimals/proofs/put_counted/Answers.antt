-- One part behind another (Puts).
use Rattle.rooms.proofs.Puts.{put_then}
use Rattle.decimals.proofs.put_counted.Goals as goal

pub returns : goal.returns
returns c = put_then c.put_all-p.ensures (put_then c.put_decimal-q.ensures c.put_all.ensures)
