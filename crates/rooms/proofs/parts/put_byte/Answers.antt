-- Past the room, at its end, or put (Puts).
use native.Mathlib.Omega.{arith}
use Rattle.rooms.proofs.Puts.{put_past, put_full, put_done}
use Rattle.rooms.proofs.parts.put_byte.Goals as goal

pub returns-then-room-o-2 : goal.returns-then-room-o-2
returns-then-room-o-2 c = put_past c.if-room-o-2.true

pub returns-then-room-o : goal.returns-then-room-o
returns-then-room-o c = put_full (omega arith) (omega arith)

pub returns : goal.returns
returns c = put_done (omega arith) (omega arith) c.put.ensures
