use Prim.Native.Nat.{◌+◌}
use native.Mathlib.Omega.{arith}
use lib.ListN.{get_or}
use Rattle.prelude.proofs.Blocks.{one_more}
use Rattle.bytewise.proofs.ByteTexts.{AsItIs}
use Rattle.bytewise.proofs.rest.any_slashed.Goals as goal

pub loop-k-init : goal.loop-k-init
loop-k-init c = (omega arith, λ e k h. absurd (omega arith))

pub loop-k-preserved : goal.loop-k-preserved
loop-k-preserved c = (omega arith, one_more (λ k. AsItIs (get_or c.args.s.now (c.args.at + k) 0)) _ _ _ c.loop-k.invariant.1 c.slashed-found.ensures)

pub returns : goal.returns
returns c = λ e n k h. c.loop-k.invariant.1 e k (omega arith) (n k h)
