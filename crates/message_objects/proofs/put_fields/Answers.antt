-- By the head (Puts).
use mathlib.Core.Path.{ap}
use Rattle.rooms.proofs.Puts.{put_as}
use Rattle.messages.specs.Messages.{fields_text}
use Rattle.message_objects.proofs.put_fields.Goals as goal

pub returns-in-Refused : goal.returns-in-Refused
returns-in-Refused c = put_as (ap fields_text c.in-Refused.is) c.put_refusal_fields.ensures

pub returns-in-Note : goal.returns-in-Note
unfolding fields_text
returns-in-Note c = put_as (ap fields_text c.in-Note.is) c.put_all.ensures
