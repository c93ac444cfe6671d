-- One part behind another (Puts).
use Rattle.rooms.proofs.Puts.{put_then}
use Rattle.messages.specs.Messages.{fields_text}
use Rattle.message_objects.proofs.put_refusal_fields.Goals as goal

pub returns : goal.returns
unfolding fields_text
returns c = put_then c.put_counted-p.ensures (put_then c.put_spot_fields-q.ensures c.put_counted.ensures)
