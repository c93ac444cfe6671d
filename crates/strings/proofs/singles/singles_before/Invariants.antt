-- The invariant `Advanced`: a plain byte or an escape is one more unit of one byte (Advancing).
use mathlib.Core.Path.{◌≡◌}
use Prim.Native.Nat.{◌-◌}
use lib.ListN.{length}
use Rattle.strings.specs.inner.Turns.{Advanced}
use Rattle.strings.proofs.singles.singles_before.Given as goal

abbrev pub invariant-loop-at : goal.invariant-loop-at
invariant-loop-at l =
    Advanced l.style l.s l.from l.o l.initial.out l.at l.count l.out × (length l.out ≡ length l.initial.out)

abbrev pub decreases-loop-at : goal.decreases-loop-at
decreases-loop-at l =
    length l.s - l.at
