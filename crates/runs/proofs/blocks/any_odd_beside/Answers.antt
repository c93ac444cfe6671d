use Prim.Native.Nat.{◌+◌}
use native.Mathlib.Omega.{arith}
use lib.ListN.{get_or}
use Rattle.runs.specs.inner.Blocks.{Alone}
use Rattle.prelude.proofs.Blocks.{one_more}
use Rattle.prelude.proofs.Cases.{or_left, or_right}
use Rattle.runs.proofs.blocks.any_odd_beside.Goals as goal

pub loop-k-init : goal.loop-k-init
loop-k-init c = (omega arith, (λ e k h. absurd (omega arith)), λ e k h. absurd (omega arith))

pub loop-k-preserved : goal.loop-k-preserved
loop-k-preserved c =
    (omega arith, one_more (λ k. Alone c.args.q (get_or c.args.s.now (c.args.a + k) 0)) _ _ _ c.loop-k.invariant.1 (λ e. c.odd.ensures.0 (or_left c.odd.result c.odd-in-loop-k.result e)), one_more (λ k. Alone c.args.q (get_or c.args.s.now (c.args.b + k) 0)) _ _ _ c.loop-k.invariant.2 (λ e. c.odd-in-loop-k.ensures.0 (or_right c.odd.result c.odd-in-loop-k.result e)))

pub returns : goal.returns
returns c = λ e. ((λ k h. c.loop-k.invariant.1 e k (omega arith)), λ k h. c.loop-k.invariant.2 e k (omega arith))
