-- The invariant: the rows passed are stored, and the rest has no fault and finds room (Filling).
use Prim.Native.Nat.{◌-◌}
use mathlib.Core.Bool.{false}
use lib.ListN.{length, take}
use Rattle.tsv8.specs.Lines.{read_lines}
use Rattle.tsv8_cells.specs.inner.Runs.{lines_from}
use Rattle.tsv8.specs.inner.Stored.{cells_in, bytes_in}
use Rattle.tsv8.proofs.Filling.{Spreading}
use Rattle.tsv8.proofs.stores.put_lines.Given as goal

abbrev pub invariant-loop-at : goal.invariant-loop-at
invariant-loop-at l =
    Spreading l.text (take l.n l.types) l.m (cells_in (read_lines false (take l.n l.types) l.m (lines_from l.text l.from))) (bytes_in (read_lines false (take l.n l.types) l.m (lines_from l.text l.from))) l.initial.table l.initial.store l.at l.i l.j l.table l.store

abbrev pub decreases-loop-at : goal.decreases-loop-at
decreases-loop-at l =
    length l.text - l.at
