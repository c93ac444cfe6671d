-- One part behind another (Puts).
use Rattle.rooms.proofs.Puts.{put_then}
use Rattle.messages.specs.Messages.{object_text}
use Rattle.message_objects.proofs.put_object.Goals as goal

pub returns : goal.returns
unfolding object_text
returns c = put_then c.put_fields-p.ensures (put_then c.put_all-q.ensures (put_then c.put_string-r.ensures c.put_all.ensures))
