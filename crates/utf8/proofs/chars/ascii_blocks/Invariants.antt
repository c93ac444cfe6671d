-- A block of ASCII is characters, so validity is decided behind it; a block with a byte from DEL up ends them (Validity).
use Prim.Native.Nat.{◌-◌}
use lib.ListN.{length}
use Rattle.utf8.specs.inner.Checks.{AllLow, ValidAs}
use Rattle.utf8.proofs.chars.ascii_blocks.Given as goal

abbrev pub invariant-loop-at : goal.invariant-loop-at
invariant-loop-at l =
    ValidAs l.s l.from l.at × AllLow l.s l.from (l.at - l.from)

abbrev pub decreases-loop-at : goal.decreases-loop-at
decreases-loop-at l =
    length l.s - l.at
