-- The lines so far are added in order; the cells left fall (Printing).
use Prim.Native.Nat.{◌-◌, ◌≤◌}
use mathlib.Core.Path.{◌≡◌}
use lib.ListN.{length}
use Rattle.command_outputs.specs.Pages.{AllAdded}
use Rattle.command_sheets.specs.inner.Tables.{table_line}
use Rattle.command_sheets.proofs.list_cells.Given as goal

abbrev pub invariant-loop-k : goal.invariant-loop-k
invariant-loop-k l =
    (length l.page ≡ length l.initial.page) × (length l.shown ≡ length l.initial.shown) × (l.k ≤ l.count) × AllAdded (table_line l.columns l.text l.names l.cells l.store) l.k l.initial.p l.initial.page l.initial.shown l.p l.page l.shown

abbrev pub decreases-loop-k : goal.decreases-loop-k
decreases-loop-k l =
    l.count - l.k
