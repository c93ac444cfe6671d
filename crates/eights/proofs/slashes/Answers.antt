-- One theorem from one byte to eight (Marks).
use lib.Dec.{lit<}
use native.Mathlib.Omega.{arith}
use Rattle.eights.proofs.Marks.{slashes_law, room_isnt}
use Rattle.eights.proofs.slashes.Goals as goal

pub overflow_add-d : goal.overflow_add-d
overflow_add-d c = omega (arith, room_isnt c.args.v 0x5c5c5c5c5c5c5c5c (lit< tt))

pub returns : goal.returns
returns c = slashes_law c.args.v
