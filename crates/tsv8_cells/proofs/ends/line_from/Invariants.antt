-- The invariant: only ignored lines were passed (Places).
use Prim.Native.Nat.{◌+◌, ◌-◌, ◌≤◌}
use mathlib.Core.Path.{◌≡◌}
use lib.ListN.{length}
use Rattle.tsv8_cells.specs.inner.Runs.{lines_from}
use Rattle.tsv8_cells.proofs.ends.line_from.Given as goal

abbrev pub invariant-loop-at : goal.invariant-loop-at
invariant-loop-at l =
    (l.from ≤ l.at) × ((l.at ≤ length l.text + 1) × (lines_from l.text l.from ≡ lines_from l.text l.at))

abbrev pub decreases-loop-at : goal.decreases-loop-at
decreases-loop-at l =
    length l.text - l.at
