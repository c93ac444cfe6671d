-- The invariant: the gap's end is found from the place reached as from the first (Places).
use Prim.Native.Nat.{◌+◌, ◌-◌, ◌≤◌}
use mathlib.Core.Path.{◌≡◌}
use lib.ListN.{length, drop}
use Rattle.tsv8_cells.specs.inner.Runs.{gap_run}
use Rattle.tsv8_cells.proofs.ends.gap.Given as goal

abbrev pub invariant-loop-at : goal.invariant-loop-at
invariant-loop-at l =
    (l.at ≤ length l.text) × (l.at + gap_run (drop l.at l.text) ≡ l.from + gap_run (drop l.from l.text))

abbrev pub decreases-loop-at : goal.decreases-loop-at
decreases-loop-at l =
    length l.text - l.at
