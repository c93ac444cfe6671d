-- One theorem from one byte to eight (Marks).
use lib.Dec.{lit<}
use Rattle.eights.proofs.Marks.{odds_law, room, room_isnt}
use Rattle.eights.proofs.odds.Goals as goal

pub overflow_add-a : goal.overflow_add-a
overflow_add-a c = record { fits = room c.args.v }

pub overflow_add-b : goal.overflow_add-b
overflow_add-b c = record { fits = room_isnt c.args.v 0x2222222222222222 (lit< tt) }

pub overflow_add-c : goal.overflow_add-c
overflow_add-c c = record { fits = room_isnt c.args.v 0x2727272727272727 (lit< tt) }

pub overflow_add-d : goal.overflow_add-d
overflow_add-d c = record { fits = room_isnt c.args.v 0x5c5c5c5c5c5c5c5c (lit< tt) }

pub returns : goal.returns
returns c = odds_law c.args.v
