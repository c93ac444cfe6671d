use Prim.Native.Nat.{◌-◌}
use mathlib.Core.Path.{refl}
use native.Mathlib.Omega.{arith}
use Rattle.line_ends.proofs.Ends.{run_block}
use Rattle.line_ends.proofs.lf_from.Goals as goal

pub loop-i-init : goal.loop-i-init
loop-i-init c = (c.requires, refl)

pub loop-i-preserved : goal.loop-i-preserved
loop-i-preserved c = (omega arith, omega (arith, run_block 32 c.args.p.now c.loop-i.i (omega arith) (c.any_lf.ensures c.if-any_lf.false)))
