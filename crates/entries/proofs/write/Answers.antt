-- Stored at once in an ample room, or measured first (Passes, Entries).
use Rattle.entries.specs.Entries.{entry_text}
use Rattle.std.specs.Prelude.{Ok, Err}
use Rattle.prelude.specs.Refusals.{no_room}
use Rattle.strings_write.specs.Write.{written_in}
use Rattle.rooms.proofs.Passes.{one_pass, too_long_lem, two_passes}
use Rattle.entries.proofs.Entries.{entry_room}
use Rattle.entries.proofs.write.Goals as goal

pub returns-then-ample : goal.returns-then-ample
unfolding written_in
returns-then-ample c =
    let r = one_pass Ok (Err no_room) (entry_text c.args.n c.args.s.now) c.args.out.now (entry_room c.args.n c.args.s.now _ (c.ample.ensures c.if-ample.true)) c.put_entry.ensures in record { answer = r.0; stored = r.1 }

pub returns-then-room-k : goal.returns-then-room-k
unfolding written_in
returns-then-room-k c =
    let r = too_long_lem Ok (Err no_room) (entry_text c.args.n c.args.s.now) c.args.out.now c.put_entry-k.new.out c.put_entry-k.auto.out c.put_entry-k.ensures c.if-room-k.true in record { answer = r.0; stored = r.1 }

pub returns : goal.returns
unfolding written_in
returns c =
    let r = two_passes Ok (Err no_room) (entry_text c.args.n c.args.s.now) c.args.out.now c.put_entry-k.new.out c.put_entry-k.auto.out c.put_entry-k.ensures c.if-room-k.false c.put_entry-2.ensures in record { answer = r.0; stored = r.1 }
