-- The invariant `ValidAs`: what is left is valid exactly if the whole is; a turn brings it on, whatever the width (Validity).
use Prim.Native.Nat.{◌-◌}
use lib.ListN.{length}
use Rattle.utf8.specs.inner.Checks.{ValidAs}
use Rattle.utf8.proofs.chars.valid_by.Given as goal

abbrev pub invariant-loop-at : goal.invariant-loop-at
invariant-loop-at g l =
    ValidAs l.s 0 l.at

abbrev pub decreases-loop-at : goal.decreases-loop-at
decreases-loop-at g l =
    length l.s - l.at
