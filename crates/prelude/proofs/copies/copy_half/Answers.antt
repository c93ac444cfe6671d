-- None, or 32 bytes more (`further`).
use Prim.Native.Nat.{◌+◌}
use native.Mathlib.Omega.{arith}
use mathlib.Core.Path.{refl}
use Rattle.prelude.proofs.Stores.{further}
use Rattle.prelude.proofs.copies.copy_half.Goals as goal

pub returns : goal.returns
returns c = (
  omega arith,
  omega arith,
  λ t e. further c.args.s.now t c.args.at c.args.o _ _ c.args.i c.args.i 32 (c.args.i + 32) _ _ (omega arith) (omega arith) refl (omega arith) refl refl e c.copy_thirty_two.ensures,
)
