-- Each way through the tests is a way through `finish_all`.
use mathlib.Core.Path.{sym}
use native.Mathlib.Omega.{arith}
use lib.ListN.{length-take}
use lib.Seq.{length-take-le}
use Rattle.upload.proofs.Values.{end_empty, end_refused, end_taken, added_fits}
use Rattle.upload.proofs.pieces.take_end.Goals as goal

pub returns-then-held-eq0 : goal.returns-then-held-eq0
returns-then-held-eq0 c = end_empty _ _ _ c.if-held-eq0.true _ c.at_end.ensures

pub slice_bounds-append_line-end : goal.slice_bounds-append_line-end
slice_bounds-append_line-end c = sym (length-take-le c.args.s.held c.args.line.now (omega (arith, c.requires.held, c.requires.large)))

pub append_line-added-requires : goal.append_line-added-requires
append_line-added-requires c = (simp length-take (omega arith), c.requires.used)

pub returns-in-Err : goal.returns-in-Err
returns-in-Err c = end_refused _ _ _ c.if-held-eq0.false _ c.append_line-added.ensures _ c.in-Err.is _ c.with_refusal.ensures

pub overflow_add-s : goal.overflow_add-s
overflow_add-s c = omega (arith, added_fits _ _ _ _ _ c.append_line-added.ensures c.requires.used c.in-Ok.is, c.well_formed.1.1.0.0)

pub returns-in-Ok : goal.returns-in-Ok
returns-in-Ok c = end_taken _ _ _ c.if-held-eq0.false _ c.append_line-added.ensures _ c.in-Ok.is _ c.at_end-in-Ok.ensures
