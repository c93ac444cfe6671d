-- Data that is one run needs no escape: its text is a quote, the data and a quote (Writing).
use Rattle.strings_write.proofs.Writing.{literal_over, literal_part}
use native.Mathlib.Omega.{arith}
use Rattle.strings_write.proofs.write.literal_part.Goals as goal

pub literal_front-requires : goal.literal_front-requires
literal_front-requires c = (c.requires, omega arith)

pub returns-then-room-size : goal.returns-then-room-size
returns-then-room-size c = literal_over c.args.s.now c.args.out.now c.requires (omega arith) c.literal_front.ensures

pub returns : goal.returns
returns c = literal_part c.args.s.now c.args.out.now c.requires (omega arith) c.put.ensures c.copy_long.ensures c.put-2.ensures
