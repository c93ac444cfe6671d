-- Measured, and then stored (Passes).
use Rattle.sentences.specs.Sentences.{sentence}
use Rattle.std.specs.Prelude.{Ok, Err}
use Rattle.prelude.specs.Refusals.{no_room}
use Rattle.strings_write.specs.Write.{written_in}
use Rattle.rooms.proofs.Passes.{too_long_lem, two_passes}
use Rattle.sentences.proofs.write.Goals as goal

pub returns-then-room-n : goal.returns-then-room-n
unfolding written_in
returns-then-room-n c =
    let r = too_long_lem Ok (Err no_room) (sentence c.args.number) c.args.out.now c.put_sentence-n.new.out c.put_sentence-n.auto.out c.put_sentence-n.ensures c.if-room-n.true in record { answer = r.0; stored = r.1 }

pub returns : goal.returns
unfolding written_in
returns c =
    let r = two_passes Ok (Err no_room) (sentence c.args.number) c.args.out.now c.put_sentence-n.new.out c.put_sentence-n.auto.out c.put_sentence-n.ensures c.if-room-n.false c.put_sentence.ensures in record { answer = r.0; stored = r.1 }
