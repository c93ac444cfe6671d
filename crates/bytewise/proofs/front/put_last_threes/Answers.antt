-- The last block holds the place where the front ended, so the front goes on behind it (Fronts).
use native.Mathlib.Omega.{arith}
use Rattle.bytewise.proofs.Fronts.{front_threes, threes_inside}
use Rattle.bytewise.proofs.front.put_last_threes.Goals as goal

pub returns : goal.returns
returns c =
    (threes_inside c.args.s.now _ _ (omega arith) c.put_through.ensures.0, front_threes c.args.s.now _ _ _ _ _ (omega arith) (omega arith) (omega arith) (c.begins.ensures.0 (c.if-not-begins.false)) (c.any_odd_three.ensures.0 c.if-any_odd_three.false) c.put_through.ensures)
