use Prim.Native.Nat.{◌+◌}
use mathlib.Core.Path.{sym}
use native.Mathlib.Omega.{arith}
use Rattle.upload.proofs.Values.{after_bytes, ok_fits}
use Rattle.line_ends.proofs.Ends.{run_inside}
use Rattle.upload.proofs.Runs.{bytes_nil, bytes_next, bytes_all, run_next, bytes_stay}
use Rattle.upload.proofs.pieces.take_bytes.Goals as goal

pub loop-s-init : goal.loop-s-init
loop-s-init c = (omega arith, sym (bytes_nil _))

pub shape_of-line-then-s-ne0 : goal.shape_of-line-then-s-ne0
shape_of-line-then-s-ne0 c = (after_bytes _ c.requires _ _ c.loop-s.invariant.1).wide

pub shape_of-out-then-s-ne0 : goal.shape_of-out-then-s-ne0
shape_of-out-then-s-ne0 c = (after_bytes _ c.requires _ _ c.loop-s.invariant.1).room

pub returns-then-s-ne0 : goal.returns-then-s-ne0
returns-then-s-ne0 c = bytes_stay _ c.args.piece.now c.loop-s.i _ _ _ c.loop-s.invariant.1 c.if-s-ne0.true

pub lf_from-e-requires : goal.lf_from-e-requires
lf_from-e-requires c = c.loop-s.invariant.0

pub overflow_sub-e : goal.overflow_sub-e
overflow_sub-e c = omega (arith, c.lf_from-e.ensures)

pub run_fits-a-requires : goal.run_fits-a-requires
run_fits-a-requires c =
    let k = after_bytes _ c.requires _ _ c.loop-s.invariant.1 in
    (k.held, k.taken)

pub take_run-s-requires : goal.take_run-s-requires
take_run-s-requires c =
    (omega (arith, c.lf_from-e.ensures, c.run_fits-a.ensures.0, run_inside c.args.piece.now c.loop-s.i c.loop-s.invariant.0), c.run_fits-a.ensures.1, c.run_fits-a.ensures.2)

pub overflow_add-i : goal.overflow_add-i
overflow_add-i c = omega (arith, c.lf_from-e.ensures, c.run_fits-a.ensures.0, run_inside c.args.piece.now c.loop-s.i c.loop-s.invariant.0)

pub shape_of-line-then-piece-i : goal.shape_of-line-then-piece-i
shape_of-line-then-piece-i c =
    (after_bytes _ c.requires _ _ (run_next _ c.args.piece.now c.loop-s.i c.run_fits-a.result _ _ _ c.loop-s.invariant.1 (omega (arith, c.lf_from-e.ensures, c.run_fits-a.ensures.0)) c.if-s-ne0.false c.run_fits-a.ensures.1 c.run_fits-a.ensures.2 _ (c.take_run-s.ensures c.loop-s.out))).wide

pub shape_of-out-then-piece-i : goal.shape_of-out-then-piece-i
shape_of-out-then-piece-i c = (after_bytes _ c.requires _ _ c.loop-s.invariant.1).room

pub returns-then-piece-i : goal.returns-then-piece-i
returns-then-piece-i c =
    bytes_all _ c.args.piece.now (c.loop-s.i + c.run_fits-a.result) _ c.if-piece-i.true
    (run_next _ c.args.piece.now c.loop-s.i c.run_fits-a.result _ _ _ c.loop-s.invariant.1 (omega (arith, c.lf_from-e.ensures, c.run_fits-a.ensures.0)) c.if-s-ne0.false c.run_fits-a.ensures.1 c.run_fits-a.ensures.2 _ (c.take_run-s.ensures c.loop-s.out))

pub bounds-piece-i : goal.bounds-piece-i
bounds-piece-i c = c.if-piece-i.false

pub take_byte-s-requires : goal.take_byte-s-requires
take_byte-s-requires c =
    ok_fits _ _ _ (after_bytes _ c.requires _ _ (run_next _ c.args.piece.now c.loop-s.i c.run_fits-a.result _ _ _ c.loop-s.invariant.1 (omega (arith, c.lf_from-e.ensures, c.run_fits-a.ensures.0)) c.if-s-ne0.false c.run_fits-a.ensures.1 c.run_fits-a.ensures.2 _ (c.take_run-s.ensures c.loop-s.out)))

pub overflow_add-i-in-loop-s : goal.overflow_add-i-in-loop-s
overflow_add-i-in-loop-s c = omega (arith, c.if-piece-i.false, c.well_formed)

pub loop-s-smaller : goal.loop-s-smaller
loop-s-smaller c = omega (arith, c.if-piece-i.false)

pub loop-s-preserved : goal.loop-s-preserved
loop-s-preserved c = (
  omega (arith, c.if-piece-i.false),
  bytes_next _ c.args.piece.now (c.loop-s.i + c.run_fits-a.result) c.if-piece-i.false _ _
      (run_next _ c.args.piece.now c.loop-s.i c.run_fits-a.result _ _ _ c.loop-s.invariant.1 (omega (arith, c.lf_from-e.ensures, c.run_fits-a.ensures.0)) c.if-s-ne0.false c.run_fits-a.ensures.1 c.run_fits-a.ensures.2 _ (c.take_run-s.ensures c.loop-s.out))
      c.take_byte-s.ensures,
)
