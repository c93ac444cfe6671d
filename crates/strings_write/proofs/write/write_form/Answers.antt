-- The part of the buffer that lies in the room is lent (Writing).
use native.Mathlib.Omega.{arith}
use mathlib.Core.Path.{sym}
use lib.Seq.{length-take-le}
use Rattle.strings_write.proofs.Writing.{part_passed}
use Rattle.strings_write.proofs.write.write_form.Goals as goal

pub slice_bounds-pass-end : goal.slice_bounds-pass-end
slice_bounds-pass-end c = c.least-n.ensures.1

pub slice_bounds-pass-end-2 : goal.slice_bounds-pass-end-2
slice_bounds-pass-end-2 c = sym (length-take-le _ _ c.least-n.ensures.1)

pub pass-requires : goal.pass-requires
pass-requires c = omega (arith, length-take-le c.least-n.result c.args.out.now c.least-n.ensures.1, c.least-n.ensures.0)

pub returns : goal.returns
returns c = part_passed c.least-n.ensures.2 c.least-n.ensures.3 c.pass.ensures
