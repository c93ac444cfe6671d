-- One theorem from one byte to eight (Marks).
use lib.Dec.{lit<}
use native.Mathlib.Omega.{arith}
use Rattle.eights.proofs.Marks.{others_law, room_isnt}
use Rattle.eights.proofs.others.Goals as goal

pub overflow_add-a : goal.overflow_add-a
overflow_add-a c = omega (arith, room_isnt c.args.v 0x3030303030303030 (lit< tt))

pub returns : goal.returns
returns c = others_law c.args.v
