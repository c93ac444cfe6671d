-- By where the place is counted from (Puts).
use mathlib.Core.Path.{ap}
use Rattle.rooms.proofs.Puts.{put_none, put_then, put_as}
use Rattle.messages.specs.Messages.{spot_text}
use Rattle.message_lines.proofs.put_spot.Goals as goal

pub returns-in-Line : goal.returns-in-Line
returns-in-Line c = put_as (ap spot_text c.in-Line.is) c.put_line.ensures

pub returns-in-Text : goal.returns-in-Text
returns-in-Text c = put_as (ap spot_text c.in-Text.is) (put_then c.put_line-p.ensures c.put_counted.ensures)

pub returns-in-Quoted : goal.returns-in-Quoted
returns-in-Quoted c = put_as (ap spot_text c.in-Quoted.is) put_none
