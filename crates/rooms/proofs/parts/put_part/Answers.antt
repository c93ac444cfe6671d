-- As in put_string (Puts).
use native.Mathlib.Omega.{arith}
use Rattle.rooms.proofs.Puts.{put_past, string_over, string_inside, string_put}
use Rattle.rooms.proofs.parts.put_part.Goals as goal

pub returns-then-room-o : goal.returns-then-room-o
returns-then-room-o c = put_past c.if-room-o.true

pub returns-in-None : goal.returns-in-None
returns-in-None c = string_over c.args.s.now c.args.out.now _ _ _ _ _ (omega arith) c.least-b.ensures.2 c.least-b.ensures.3 c.write_part.ensures c.in-None.is

pub overflow_add-result : goal.overflow_add-result
overflow_add-result c =
    omega (arith, string_inside c.args.s.now c.args.out.now _ _ _ _ _ (omega arith) c.least-b.ensures.2 c.least-b.ensures.3 c.write_part.ensures _ c.in-Some.is, c.requires.1)

pub returns-in-Some : goal.returns-in-Some
returns-in-Some c = string_put c.args.s.now c.args.out.now _ _ _ _ _ (omega arith) c.least-b.ensures.2 c.least-b.ensures.3 c.write_part.ensures _ c.in-Some.is
