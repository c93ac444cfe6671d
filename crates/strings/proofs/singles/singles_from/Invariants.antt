-- The invariant `Advanced`: each stretch is one more part of the reading (Advancing).
use mathlib.Core.Path.{◌≡◌}
use Prim.Native.Nat.{◌-◌}
use lib.ListN.{length}
use Rattle.strings.specs.inner.Turns.{Advanced}
use Rattle.strings.proofs.singles.singles_from.Given as goal

abbrev pub invariant-loop-style : goal.invariant-loop-style
invariant-loop-style l =
    Advanced l.style l.s l.from l.o l.initial.out l.at l.count l.out × (length l.out ≡ length l.initial.out)

abbrev pub decreases-loop-style : goal.decreases-loop-style
decreases-loop-style l =
    length l.s - l.at
