-- A quote, and the data as far as the room reaches (Writing).
use Rattle.strings_write.proofs.Writing.{front_none, front_stored}
use Rattle.strings_write.proofs.write.literal_front.Goals as goal

pub returns-then-room-eq0 : goal.returns-then-room-eq0
returns-then-room-eq0 c = front_none c.args.s.now c.args.out.now c.requires.0 c.if-room-eq0.true

pub returns : goal.returns
returns c = front_stored c.args.s.now c.args.out.now c.requires.0 c.if-room-eq0.false c.requires.1 c.put.ensures c.copy_long.ensures
