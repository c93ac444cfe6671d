-- The invariant `Judged`: the records left are right exactly if all are (LineTexts).
use Prim.Native.Nat.{◌-◌}
use lib.ListN.{length}
use Rattle.lines_write.proofs.LineTexts.{Judged}
use Rattle.lines_write.proofs.write.right_records.Given as goal

abbrev pub invariant-loop-at : goal.invariant-loop-at
invariant-loop-at l =
    Judged l.s l.at

abbrev pub decreases-loop-at : goal.decreases-loop-at
decreases-loop-at l =
    length l.s - l.at
