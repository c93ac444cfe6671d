-- One part behind another (Puts).
use Rattle.rooms.proofs.Puts.{put_then}
use Rattle.messages.specs.Messages.{head_text}
use Rattle.message_lines.proofs.put_refusal.Goals as goal

pub returns : goal.returns
unfolding head_text
returns c = put_then c.put_counted-p.ensures (put_then c.put_spot-q.ensures c.put_counted.ensures)
