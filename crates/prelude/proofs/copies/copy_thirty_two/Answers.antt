-- Sixteen bytes, and then sixteen more (`further`).
use native.Mathlib.Omega.{arith}
use mathlib.Core.Path.{refl}
use Rattle.prelude.proofs.Stores.{further}
use Rattle.prelude.proofs.copies.copy_thirty_two.Goals as goal

pub returns : goal.returns
returns c =
    further c.args.s.now c.args.out.now c.args.at c.args.o _ _ 16 16 16 32 _ _ (omega arith) (omega arith) refl (omega arith) refl refl c.copy_sixteen.ensures c.copy_sixteen-2.ensures
