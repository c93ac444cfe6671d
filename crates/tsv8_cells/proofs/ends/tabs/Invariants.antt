-- The invariant: the cells passed, and those that stand behind them, are all cells of the line (Places).
use Prim.Native.Nat.{◌-◌}
use lib.ListN.{length}
use Rattle.tsv8_cells.proofs.Places.{Counting}
use Rattle.tsv8_cells.proofs.ends.tabs.Given as goal

abbrev pub invariant-loop-at : goal.invariant-loop-at
invariant-loop-at l =
    Counting l.text l.from l.at l.n

abbrev pub decreases-loop-at : goal.decreases-loop-at
decreases-loop-at l =
    length l.text - l.at
