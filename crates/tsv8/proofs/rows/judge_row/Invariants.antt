-- The invariant: the cells read so far, and then the rest, are the line's cells (RowTexts).
use Prim.Native.Nat.{◌-◌}
use Rattle.tsv8.proofs.RowTexts.{Reading}
use Rattle.tsv8.proofs.rows.judge_row.Given as goal

abbrev pub invariant-loop-k : goal.invariant-loop-k
invariant-loop-k l =
    Reading l.text l.types l.from l.n l.m l.q l.k l.j

abbrev pub decreases-loop-k : goal.decreases-loop-k
decreases-loop-k l =
    l.n - l.k
