-- Bytes that are stored twice are the same bytes (Fronts).
use native.Mathlib.Omega.{arith}
use Rattle.bytewise.proofs.Fronts.{front_last}
use Rattle.bytewise.proofs.front.put_last.Goals as goal

pub returns : goal.returns
returns c =
    (omega arith, front_last c.args.s.now _ _ 16 _ _ (omega arith) (omega arith) (omega arith) (c.any_odd.ensures.0 c.if-any_odd.false) c.put_sixteen.ensures)
