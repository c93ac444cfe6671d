-- The nodes left fall, and a page ends printed or not (Ends).
use Prim.Native.Nat.{◌-◌}
use lib.ListN.{length}
use mathlib.Core.Path.{◌≡◌}
use Rattle.command_tables.proofs.list_nodes.Given as goal

abbrev pub invariant-loop-node : goal.invariant-loop-node
invariant-loop-node l =
    (length l.page ≡ length l.initial.page) × (length l.shown ≡ length l.initial.shown)

abbrev pub decreases-loop-node : goal.decreases-loop-node
decreases-loop-node l =
    l.nodes - l.node
