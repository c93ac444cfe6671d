-- The payload is read behind the place of its head, which is put last (LineRecords).
use native.Mathlib.Omega.{arith}
use mathlib.Core.Path.{ap, ◌∙◌}
use Rattle.std.specs.Prelude.{Ok}
use Rattle.std.proofs.lemmas.Result.{err_from_is_err_and}
use Rattle.records.proofs.LineRecords.{from_inside, nothing_added, fault_added, no_head, holds_inside, record_added}
use Rattle.records.proofs.append_line.Goals as goal

pub slice_bounds-read_line-count : goal.slice_bounds-read_line-count
slice_bounds-read_line-count c = from_inside c.args.out.now _ _ c.requires.1 c.payload_from-from.ensures

pub slice_bounds-read_line-start : goal.slice_bounds-read_line-start
slice_bounds-read_line-start c = from_inside c.args.out.now _ _ c.requires.1 c.payload_from-from.ensures

pub returns-then-out-used-lt-HEAD : goal.returns-then-out-used-lt-HEAD
returns-then-out-used-lt-HEAD c =
    rw c.at.ensures (no_head c.args.out.now _ _ c.requires.1 c.payload_from-from.ensures _ _ _ (c.read_line.ensures.answer, c.read_line.ensures.stored) _ _ (c.in_ok-line.was ∙ ap Ok c.in-Some.is) (omega arith))

pub overflow_add-result : goal.overflow_add-result
overflow_add-result c =
    omega (arith, holds_inside c.args.out.now _ _ c.requires.1 c.payload_from-from.ensures _ _ _ (c.read_line.ensures.answer, c.read_line.ensures.stored) _ _ (c.in_ok-line.was ∙ ap Ok c.in-Some.is))

pub returns-in-None : goal.returns-in-None
returns-in-None c =
    nothing_added c.args.out.now _ _ c.requires.1 c.payload_from-from.ensures _ _ _ (c.read_line.ensures.answer, c.read_line.ensures.stored) (c.in_ok-line.was ∙ ap Ok c.in-None.is)

pub returns-else-out-used-lt-HEAD : goal.returns-else-out-used-lt-HEAD
returns-else-out-used-lt-HEAD c =
    record_added c.args.out.now _ _ c.requires.1 c.payload_from-from.ensures _ _ _ (c.read_line.ensures.answer, c.read_line.ensures.stored) _ _ (c.in_ok-line.was ∙ ap Ok c.in-Some.is) _ (omega arith) c.put_head.ensures

pub returns-in_err-line : goal.returns-in_err-line
returns-in_err-line c =
    let p = err_from_is_err_and c.from_residual.result c.from_residual.ensures.1 in
    rw (p.1, p.2) (fault_added c.args.out.now _ _ c.requires.1 c.payload_from-from.ensures _ _ _ (c.read_line.ensures.answer, c.read_line.ensures.stored) _ c.in_err-line.was)
