-- The invariant `Kept`: what is decoded is stored, and the rest is still to be read; a turn adds a run, whose end is known, a unit, and
-- units of one byte behind it.
use mathlib.Core.Path.{◌≡◌}
use Prim.Native.Nat.{◌+◌, ◌-◌}
use lib.ListN.{length, drop}
use Rattle.notation.specs.Literals.{literal_run}
use Rattle.strings.proofs.Reading.{Kept}
use Rattle.strings.proofs.read.units_from.Given as goal

abbrev pub invariant-loop-step : goal.invariant-loop-step
invariant-loop-step l =
    Kept l.style l.s l.initial.out l.from l.out l.at l.o × (length l.out ≡ length l.initial.out) × (l.e ≡ l.at + literal_run l.style 0 (drop l.at l.s))

abbrev pub decreases-loop-step : goal.decreases-loop-step
decreases-loop-step l =
    length l.s + 1 - l.at
