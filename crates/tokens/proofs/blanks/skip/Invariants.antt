-- The invariant `Skipping`: what is skipped from a place on, in a comment or not, is what is skipped from the start; each turn is one of its laws.
use Prim.Native.Nat.{◌-◌}
use lib.ListN.{length}
use Rattle.tokens.proofs.Skipping.{Skipping}
use Rattle.tokens.proofs.blanks.skip.Given as goal

abbrev pub invariant-loop-at : goal.invariant-loop-at
invariant-loop-at l =
    Skipping l.s l.from l.at l.inside

abbrev pub decreases-loop-at : goal.decreases-loop-at
decreases-loop-at l =
    length l.s - l.at
