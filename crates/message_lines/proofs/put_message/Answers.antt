-- One part behind another (Puts).
use Rattle.rooms.proofs.Puts.{put_then}
use Rattle.messages.specs.Messages.{message_text}
use Rattle.message_lines.proofs.put_message.Goals as goal

pub returns : goal.returns
unfolding message_text
returns c = put_then c.put_head-p.ensures (put_then c.put_all-q.ensures c.put_byte.ensures)
