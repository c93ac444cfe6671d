-- ASCII and nothing are valid; any other rest is judged behind the front (AmpleRoom).
use native.Mathlib.Omega.{arith}
use Rattle.utf8.proofs.Validity.{low_valid}
use Rattle.strings_write.proofs.AmpleRoom.{ascii_left, nothing_left, part_judged}
use Rattle.strings_write.proofs.write.judge.Goals as goal

pub ascii_from-requires : goal.ascii_from-requires
ascii_from-requires c = c.requires.0

pub returns-then-ascii_from : goal.returns-then-ascii_from
returns-then-ascii_from c = (c.requires.0, λ o f. f, ascii_left _ _ (low_valid _ _ c.requires.0 (c.ascii_from.ensures.0 c.if-ascii_from.true)))

pub put_onward-e-requires : goal.put_onward-e-requires
put_onward-e-requires c = (c.requires.0, c.requires.1)

pub returns-then-e-s : goal.returns-then-e-s
returns-then-e-s c = (c.put_onward-e.ensures.0, c.put_onward-e.ensures.1, nothing_left _ _ c.if-e-s.true)

pub slice_bounds-valid_near-count : goal.slice_bounds-valid_near-count
slice_bounds-valid_near-count c = c.put_onward-e.ensures.0

pub slice_bounds-valid_near-start : goal.slice_bounds-valid_near-start
slice_bounds-valid_near-start c = omega (arith, c.put_onward-e.ensures.0)

pub slice_bounds-valid_near-end : goal.slice_bounds-valid_near-end
slice_bounds-valid_near-end c = omega arith

pub returns : goal.returns
returns c = (c.put_onward-e.ensures.0, c.put_onward-e.ensures.1, part_judged c.args.s.now c.put_onward-e.result _ c.valid_near.ensures)
