-- The invariant: the lines passed, and then the rest, are all lines (LineTexts).
use Prim.Native.Nat.{◌-◌}
use lib.ListN.{length, take}
use Rattle.tsv8.proofs.LineTexts.{Passing}
use Rattle.tsv8.proofs.rows.judge_lines.Given as goal

abbrev pub invariant-loop-at : goal.invariant-loop-at
invariant-loop-at l =
    Passing l.text (take l.n l.types) l.from l.n l.m l.at l.count l.stored

abbrev pub decreases-loop-at : goal.decreases-loop-at
decreases-loop-at l =
    length l.text - l.at
