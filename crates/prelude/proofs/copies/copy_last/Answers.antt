-- The last sixteen bytes, of which some may be stored already (`further`).
use Prim.Native.Nat.{◌+◌, ◌-◌}
use native.Mathlib.Omega.{arith}
use mathlib.Core.Path.{refl}
use Rattle.prelude.proofs.Stores.{further}
use Rattle.prelude.proofs.copies.copy_last.Goals as goal

pub returns-then-last-i : goal.returns-then-last-i
returns-then-last-i c =
    λ t e. further c.args.s.now t c.args.at c.args.o _ _ c.args.i (c.args.n - 16) 16 c.args.n _ _ (omega arith) (omega arith) (omega arith) (omega arith) refl refl e c.copy_sixteen.ensures

pub returns : goal.returns
returns c =
    λ t e. further c.args.s.now t c.args.at c.args.o _ _ (c.args.i + 16) (c.args.n - 16) 16 c.args.n _ _ (omega arith) (omega arith) (omega arith) (omega arith) refl refl
    (further c.args.s.now t c.args.at c.args.o _ _ c.args.i c.args.i 16 (c.args.i + 16) _ _ (omega arith) (omega arith) refl (omega arith) refl refl e c.copy_sixteen-2.ensures)
    c.copy_sixteen-3.ensures
