-- The invariant: the cells passed are stored, and the rest has no fault and finds room (Filling).
use Prim.Native.Nat.{◌-◌}
use lib.ListN.{take}
use Rattle.tsv8_cells.specs.Cells.{cells_of}
use Rattle.tsv8_cells.specs.inner.Runs.{cells_at}
use Rattle.tsv8.specs.inner.Stored.{cells_in, bytes_in}
use Rattle.tsv8.proofs.Filling.{Writing}
use Rattle.tsv8.proofs.stores.put_row.Given as goal

abbrev pub invariant-loop-k : goal.invariant-loop-k
invariant-loop-k l =
    Writing l.text l.types l.from l.n l.i l.m (cells_in (cells_of (take l.n l.types) l.m (cells_at l.text l.from))) (bytes_in (cells_of (take l.n l.types) l.m (cells_at l.text l.from))) l.initial.table l.initial.store l.q l.k l.j l.table l.store

abbrev pub decreases-loop-k : goal.decreases-loop-k
decreases-loop-k l =
    l.n - l.k
