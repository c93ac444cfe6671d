-- Each way through the tests is a way through `feed_byte`.
use mathlib.Core.Path.{sym}
use native.Mathlib.Omega.{arith}
use lib.ListN.{length-take}
use lib.Seq.{length-take-le}
use Rattle.upload.proofs.Values.{byte_kept, byte_over, byte_long, byte_stored, byte_lf, byte_lf_refused, added_fits}
use Rattle.upload.proofs.pieces.take_byte.Goals as goal

pub returns-then-s-ne0 : goal.returns-then-s-ne0
returns-then-s-ne0 c = byte_kept _ _ _ _ c.if-s-ne0.true

pub returns-then-s-eq-UPLOAD_MAX : goal.returns-then-s-eq-UPLOAD_MAX
returns-then-s-eq-UPLOAD_MAX c = byte_over _ _ _ _ c.if-s-ne0.false _ c.at.ensures _ c.with_refusal.ensures c.if-s-eq-UPLOAD_MAX.true

pub slice_bounds-append_line-end-then-b-eq10 : goal.slice_bounds-append_line-end-then-b-eq10
slice_bounds-append_line-end-then-b-eq10 c = sym (length-take-le c.args.s.held c.args.line.now (omega (arith, c.requires.held, c.requires.large)))

pub append_line-added-requires : goal.append_line-added-requires
append_line-added-requires c = (simp length-take (omega arith), c.requires.used)

pub returns-in-Err : goal.returns-in-Err
returns-in-Err c =
    byte_lf_refused _ _ _ _ c.if-s-ne0.false c.if-s-eq-UPLOAD_MAX.false c.if-b-eq10.true _ c.append_line-added.ensures _ c.in-Err.is _ c.with_refusal-in-Err.ensures

pub overflow_add-result-in-Ok-2 : goal.overflow_add-result-in-Ok-2
overflow_add-result-in-Ok-2 c = omega (arith, added_fits _ _ _ _ _ c.append_line-added.ensures c.requires.used c.in-Ok.is, c.well_formed.1.1.1.0.0)

pub returns-in-Ok : goal.returns-in-Ok
returns-in-Ok c = byte_lf _ _ _ _ c.if-s-ne0.false c.if-s-eq-UPLOAD_MAX.false c.if-b-eq10.true _ c.append_line-added.ensures _ c.in-Ok.is

pub returns-then-held-eq-LINE_MAX : goal.returns-then-held-eq-LINE_MAX
returns-then-held-eq-LINE_MAX c =
    byte_long _ _ _ _ c.if-s-ne0.false c.if-s-eq-UPLOAD_MAX.false _ c.at-then-held-eq-LINE_MAX.ensures _ c.with_refusal-then-held-eq-LINE_MAX.ensures c.if-b-eq10.false c.if-held-eq-LINE_MAX.true

pub returns : goal.returns
returns c = byte_stored _ _ _ _ c.if-s-ne0.false c.if-s-eq-UPLOAD_MAX.false c.if-b-eq10.false c.if-held-eq-LINE_MAX.false
