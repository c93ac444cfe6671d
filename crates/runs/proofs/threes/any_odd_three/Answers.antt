use Prim.Native.Nat.{◌+◌}
use mathlib.Core.Path.{refl}
use native.Mathlib.Omega.{arith}
use lib.ListN.{get_or}
use Rattle.runs.specs.inner.Blocks.{Tripled}
use Rattle.prelude.proofs.Blocks.{one_more, one_less}
use Rattle.runs.proofs.threes.any_odd_three.Goals as goal

pub loop-k-init : goal.loop-k-init
loop-k-init c = (omega arith, (λ e k h. absurd (omega arith)), λ l. refl)

pub loop-k-preserved : goal.loop-k-preserved
loop-k-preserved c =
    (omega arith, one_more (λ k. Tripled c.args.q (get_or c.args.s.now (c.args.at + k) 0) (get_or c.args.s.now (c.args.at + k + 1) 0) (get_or c.args.s.now (c.args.at + k + 2) 0)) _ _ _ c.loop-k.invariant.1 c.odd_three-found.ensures.0, one_less (λ k. Tripled c.args.q (get_or c.args.s.now (c.args.at + k) 0) (get_or c.args.s.now (c.args.at + k + 1) 0) (get_or c.args.s.now (c.args.at + k + 2) 0)) _ _ _ c.loop-k.invariant.2 c.odd_three-found.ensures.1)

pub returns : goal.returns
returns c = ((λ e k h. c.loop-k.invariant.1 e k (omega arith)), λ l. c.loop-k.invariant.2 (λ k h. l k (omega (arith, c.loop-k.invariant.0))))
