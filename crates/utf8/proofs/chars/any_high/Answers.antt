use Prim.Native.Nat.{◌-◌}
use mathlib.Core.Path.{refl}
use native.Mathlib.Omega.{arith}
use Rattle.utf8.proofs.Validity.{low_more, low_less}
use Rattle.utf8.proofs.chars.any_high.Goals as goal

pub loop-k-init : goal.loop-k-init
loop-k-init c = (omega arith, (λ e k h. absurd (omega arith)), λ l. refl)

pub loop-k-preserved : goal.loop-k-preserved
loop-k-preserved c = (omega arith, low_more c.args.s.now c.args.at _ _ c.loop-k.invariant.1, low_less c.args.s.now c.args.at _ _ c.loop-k.invariant.2)

pub returns : goal.returns
returns c = ((λ e k h. c.loop-k.invariant.1 e k (omega arith)), λ l. c.loop-k.invariant.2 (λ k h. l k (omega (arith, c.loop-k.invariant.0))))
