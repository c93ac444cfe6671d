-- Digit by digit (Choices).
use Rattle.command_words.proofs.Choices.{Counted}
use Prim.Native.Nat.{◌-◌}
use lib.ListN.{length}
use Rattle.command_words.proofs.arguments.size_of.Given as goal

abbrev pub invariant-loop-i : goal.invariant-loop-i
invariant-loop-i l =
    Counted l.word l.size l.i

abbrev pub decreases-loop-i : goal.decreases-loop-i
decreases-loop-i l =
    length l.word - l.i
