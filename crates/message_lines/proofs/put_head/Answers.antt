-- By the head (Puts).
use mathlib.Core.Path.{ap}
use Rattle.rooms.proofs.Puts.{put_as}
use Rattle.messages.specs.Messages.{head_text}
use Rattle.message_lines.proofs.put_head.Goals as goal

pub returns-in-Refused : goal.returns-in-Refused
returns-in-Refused c = put_as (ap head_text c.in-Refused.is) c.put_refusal.ensures

pub returns-in-Note : goal.returns-in-Note
unfolding head_text
returns-in-Note c = put_as (ap head_text c.in-Note.is) c.put_all.ensures
