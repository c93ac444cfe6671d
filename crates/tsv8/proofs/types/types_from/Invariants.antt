-- The invariant: the types stored, and then those of the rest, are the line's types (TypeTexts).
use Prim.Native.Nat.{◌-◌}
use Rattle.tsv8.proofs.TypeTexts.{Naming}
use Rattle.tsv8.proofs.types.types_from.Given as goal

abbrev pub invariant-loop-k : goal.invariant-loop-k
invariant-loop-k l =
    Naming l.text l.from l.n l.q l.k l.types

abbrev pub decreases-loop-k : goal.decreases-loop-k
decreases-loop-k l =
    l.n - l.k
