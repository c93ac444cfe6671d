-- The loop's invariant `Filling`: bytes before a backslash, and the unit that begins there (Filling).
use Prim.Native.Nat.{◌-◌}
use lib.ListN.{length, drop}
use mathlib.Core.Path.{◌≡◌}
use Rattle.strings.specs.inner.Turns.{units_bytes}
use Rattle.string_tokens.proofs.Filling.{Filling}
use Rattle.string_tokens.proofs.fill.fill_units.Given as goal

abbrev pub invariant-loop-o : goal.invariant-loop-o
invariant-loop-o l =
    Filling l.style l.s (units_bytes l.style 0 (drop l.from l.s)) l.out l.at l.o × (length l.out ≡ length l.initial.out)

abbrev pub decreases-loop-o : goal.decreases-loop-o
decreases-loop-o l =
    length l.s - l.at
