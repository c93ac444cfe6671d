use Prim.Native.Nat.{ℕ, ◌+◌, ◌-◌}
use native.Mathlib.Omega.{arith}
use mathlib.Core.List.{List}
use mathlib.Core.Path.{refl, ap, ◌∙◌}
use lib.ListN.{take, drop}
use lib.Seq.{sets}
use Rattle.prelude.proofs.Stores.{further}
use Rattle.prelude.proofs.copies.copy_blocks.Goals as goal

pub loop-i-preserved : goal.loop-i-preserved
loop-i-preserved c = (
  omega arith,
  further c.args.s.now c.args.out.now c.args.at c.args.o _ _ (c.loop-i.i + 32) (c.loop-i.i + 32) 32 (c.loop-i.i + 64) (c.args.at + c.loop-i.i + 32) (c.args.o + c.loop-i.i + 32) (omega arith) (omega arith) (omega arith) (omega arith) (omega arith) (omega arith)
      (further c.args.s.now c.args.out.now c.args.at c.args.o _ _ c.loop-i.i c.loop-i.i 32 (c.loop-i.i + 32) _ _ (omega arith) (omega arith) refl (omega arith) refl refl c.loop-i.invariant.1 c.copy_thirty_two.ensures)
      c.copy_thirty_two-in-loop-i.ensures,
  omega arith,
)
