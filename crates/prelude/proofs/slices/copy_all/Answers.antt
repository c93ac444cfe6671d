use Prim.Native.Nat.{ℕ, ◌+◌, ◌-◌}
use native.Mathlib.Omega.{arith}
use lib.ListN.{get_or, take, drop, set, length-set}
use mathlib.Core.List.{List}
use mathlib.Core.Path.{◌≡◌, refl, ap, ◌∙◌}
use lib.Seq.{sets}
use Rattle.prelude.proofs.Stores.{copied}
use Rattle.prelude.proofs.slices.copy_all.Goals as goal

pub loop-i-preserved : goal.loop-i-preserved
loop-i-preserved c = (
  omega arith,
  ap (λ (l : List ℕ). set l (c.args.o + c.loop-i.i) (get_or c.args.s.now (c.args.at + c.loop-i.i) 0)) c.loop-i.invariant.1
      ∙ copied c.args.s.now c.args.out.now c.args.at c.args.o c.loop-i.i (omega arith),
  simp length-set c.loop-i.invariant.2,
)
