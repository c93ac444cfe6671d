-- The invariant: the first k numbers are stored (Filling).
use Prim.Native.Nat.{◌-◌}
use Rattle.tsv8.proofs.Filling.{Numbering}
use Rattle.tsv8.proofs.stores.put_types.Given as goal

abbrev pub invariant-loop-k : goal.invariant-loop-k
invariant-loop-k l =
    Numbering l.types l.initial.out l.n l.k l.out

abbrev pub decreases-loop-k : goal.decreases-loop-k
decreases-loop-k l =
    l.n - l.k
