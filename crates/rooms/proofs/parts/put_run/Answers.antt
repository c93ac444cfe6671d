-- Past the room, over it, or put (Puts).
use native.Mathlib.Omega.{arith}
use Rattle.rooms.proofs.Puts.{put_past, run_over, run_put}
use Rattle.rooms.proofs.parts.put_run.Goals as goal

pub returns-then-room-o : goal.returns-then-room-o
returns-then-room-o c = put_past c.if-room-o.true

pub returns-then-room-o-2 : goal.returns-then-room-o-2
returns-then-room-o-2 c = run_over c.args.s.now c.args.at c.args.n c.requires.0 (omega arith) c.if-room-o-2.true c.copy_run.ensures

pub returns : goal.returns
returns c = run_put c.args.s.now c.args.at c.args.n c.requires.0 (omega arith) (omega arith) c.copy_run-2.ensures
