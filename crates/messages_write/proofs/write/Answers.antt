-- Measured, and then stored (Passes).
use Rattle.messages.specs.Messages.{said_text}
use Rattle.std.specs.Prelude.{Ok, Err}
use Rattle.prelude.specs.Refusals.{no_room}
use Rattle.strings_write.specs.Write.{written_in}
use Rattle.rooms.proofs.Passes.{too_long_lem, two_passes}
use Rattle.messages_write.proofs.write.Goals as goal

pub returns-then-room-n : goal.returns-then-room-n
unfolding written_in
returns-then-room-n c =
    let r = too_long_lem Ok (Err no_room) (said_text c.args.json c.args.head c.args.sentence.now) c.args.out.now c.put_said-n.new.out c.put_said-n.auto.out c.put_said-n.ensures c.if-room-n.true in record { answer = r.0; stored = r.1 }

pub returns : goal.returns
unfolding written_in
returns c =
    let r = two_passes Ok (Err no_room) (said_text c.args.json c.args.head c.args.sentence.now) c.args.out.now c.put_said-n.new.out c.put_said-n.auto.out c.put_said-n.ensures c.if-room-n.false c.put_said.ensures in record { answer = r.0; stored = r.1 }
