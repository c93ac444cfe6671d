-- By where the place is counted from (Puts).
use mathlib.Core.Path.{ap}
use Rattle.rooms.proofs.Puts.{put_then, put_as}
use Rattle.messages.specs.Messages.{spot_fields}
use Rattle.message_objects.proofs.put_spot_fields.Goals as goal

pub returns-in-Line : goal.returns-in-Line
returns-in-Line c = put_as (ap spot_fields c.in-Line.is) c.put_counted.ensures

pub returns-in-Text : goal.returns-in-Text
returns-in-Text c = put_as (ap spot_fields c.in-Text.is) (put_then c.put_counted-p.ensures c.put_counted-in-Text.ensures)

pub returns-in-Quoted : goal.returns-in-Quoted
returns-in-Quoted c = put_as (ap spot_fields c.in-Quoted.is) c.put_all.ensures
