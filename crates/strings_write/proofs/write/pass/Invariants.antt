-- The invariant `Writing`: what is written, and then the text of the rest; so the count passes the room exactly if the text does.
use Prim.Native.Nat.{◌-◌}
use lib.ListN.{length}
use Rattle.strings_write.proofs.Writing.{Writing}
use Rattle.strings_write.proofs.write.pass.Given as goal

abbrev pub invariant-loop-at : goal.invariant-loop-at
invariant-loop-at l =
    Writing l.form l.s l.room l.initial.out l.at l.o l.out

abbrev pub decreases-loop-at : goal.decreases-loop-at
decreases-loop-at l =
    length l.s - l.at
