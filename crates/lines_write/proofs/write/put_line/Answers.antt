-- The text of the payload, and the LF behind it (LineTexts).
use native.Mathlib.Omega.{arith}
use Rattle.lines_write.proofs.LineTexts.{right_inside, valid_told, line_put}
use Rattle.lines_write.proofs.write.put_line.Goals as goal

pub slice_bounds-put_part-end : goal.slice_bounds-put_part-end
slice_bounds-put_part-end c = omega (arith, right_inside c.args.s.now _ _ c.requires.0 c.number_at-n.ensures.0 c.requires.1)

pub put_part-p-requires : goal.put_part-p-requires
put_part-p-requires c = (valid_told c.args.s.now _ _ c.requires.0 c.number_at-n.ensures.0 c.requires.1 _ c.number_at-valid.ensures.0, c.requires.2)

pub returns : goal.returns
returns c = line_put c.args.s.now _ _ c.requires.0 c.number_at-n.ensures.0 c.put_part-p.ensures c.put_byte.ensures
