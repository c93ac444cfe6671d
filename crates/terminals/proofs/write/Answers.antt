-- Measured, and then stored (Passes).
use Rattle.terminals.specs.Terminals.{safe_text}
use Rattle.std.specs.Prelude.{Ok, Err}
use Rattle.prelude.specs.Refusals.{no_room}
use Rattle.strings_write.specs.Write.{written_in}
use Rattle.rooms.proofs.Passes.{too_long_lem, two_passes}
use Rattle.terminals.proofs.write.Goals as goal

pub returns-then-room-n : goal.returns-then-room-n
unfolding written_in
returns-then-room-n c =
    let r = too_long_lem Ok (Err no_room) (safe_text c.args.text.now) c.args.out.now c.put_safe-n.new.out c.put_safe-n.auto.out c.put_safe-n.ensures c.if-room-n.true in record { answer = r.0; stored = r.1 }

pub returns : goal.returns
unfolding written_in
returns c =
    let r = two_passes Ok (Err no_room) (safe_text c.args.text.now) c.args.out.now c.put_safe-n.new.out c.put_safe-n.auto.out c.put_safe-n.ensures c.if-room-n.false c.put_safe.ensures in record { answer = r.0; stored = r.1 }
