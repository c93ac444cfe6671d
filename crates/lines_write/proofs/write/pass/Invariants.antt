-- The invariant `Filling`: what is put, and then the lines of the records left, is the text (LineTexts).
use Prim.Native.Nat.{◌-◌}
use lib.ListN.{length}
use Rattle.lines_write.proofs.LineTexts.{Filling}
use Rattle.lines_write.proofs.write.pass.Given as goal

abbrev pub invariant-loop-at : goal.invariant-loop-at
invariant-loop-at l =
    Filling l.s l.room l.initial.out l.at l.o l.out

abbrev pub decreases-loop-at : goal.decreases-loop-at
decreases-loop-at l =
    length l.s - l.at
