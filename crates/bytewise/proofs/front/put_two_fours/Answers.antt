-- Two blocks that may overlap: bytes that are stored twice are the same bytes (Fronts).
use native.Mathlib.Omega.{arith}
use Rattle.prelude.proofs.Cases.{or_left, or_right}
use Rattle.bytewise.proofs.Fronts.{front_block, front_last, onward_then}
use Rattle.bytewise.proofs.front.put_two_fours.Goals as goal

pub returns : goal.returns
returns c =
    (omega arith, onward_then c.args.s.now _ _ _ _ _ _ (front_block c.args.s.now 0 4 _ _ (omega (arith, c.requires)) (c.any_odd.ensures.0 (or_left c.any_odd.result c.any_odd-2.result c.if-any_odd.false)) c.copy_four.ensures) (front_last c.args.s.now _ _ 4 _ _ (omega (arith, c.requires)) (omega (arith, c.requires)) (omega (arith, c.requires)) (c.any_odd-2.ensures.0 (or_right c.any_odd.result c.any_odd-2.result c.if-any_odd.false)) c.copy_four-2.ensures))
