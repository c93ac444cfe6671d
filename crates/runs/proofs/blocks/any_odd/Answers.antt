use Prim.Native.Nat.{◌+◌}
use mathlib.Core.Path.{refl}
use native.Mathlib.Omega.{arith}
use lib.ListN.{get_or}
use Rattle.runs.specs.inner.Blocks.{Alone}
use Rattle.prelude.proofs.Blocks.{one_more, one_less}
use Rattle.runs.proofs.blocks.any_odd.Goals as goal

pub loop-k-init : goal.loop-k-init
loop-k-init c = (omega arith, (λ e k h. absurd (omega arith)), λ l. refl)

pub loop-k-preserved : goal.loop-k-preserved
loop-k-preserved c =
    (omega arith, one_more (λ k. Alone c.args.q (get_or c.args.s.now (c.args.at + k) 0)) _ _ _ c.loop-k.invariant.1 c.odd-found.ensures.0, one_less (λ k. Alone c.args.q (get_or c.args.s.now (c.args.at + k) 0)) _ _ _ c.loop-k.invariant.2 c.odd-found.ensures.1)

pub returns : goal.returns
returns c = ((λ e k h. c.loop-k.invariant.1 e k (omega arith)), λ l. c.loop-k.invariant.2 (λ k h. l k (omega (arith, c.loop-k.invariant.0))))
