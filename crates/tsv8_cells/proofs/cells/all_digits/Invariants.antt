-- The invariant: what is found from the place reached is what is found from the start (Numerals).
use Prim.Native.Nat.{◌-◌, ◌≤◌}
use mathlib.Core.Path.{◌≡◌}
use lib.ListN.{length, drop}
use Rattle.tsv8_cells.specs.Types.{all_digits}
use Rattle.tsv8_cells.proofs.cells.all_digits.Given as goal

abbrev pub invariant-loop-i : goal.invariant-loop-i
invariant-loop-i l =
    (l.i ≤ length l.w) × (all_digits l.w ≡ all_digits (drop l.i l.w))

abbrev pub decreases-loop-i : goal.decreases-loop-i
decreases-loop-i l =
    length l.w - l.i
