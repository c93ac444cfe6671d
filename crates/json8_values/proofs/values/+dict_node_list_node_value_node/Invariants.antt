-- The three readers as one cycle. The brackets that may still be opened, with the bytes left, fall at each call; a loop keeps `Loop` (Members).
use Prim.Native.Nat.{ℕ}
use Prim.Native.Nat.{◌+◌, ◌-◌}
use lib.ListN.{length}
use Rattle.json8.specs.declared.nodes.Sort.TheVariants.{Items, Pairs}
use Rattle.json8.specs.Values.{value}
use Rattle.json8_values.proofs.Members.{Loop}
use Rattle.json8_values.proofs.values.+dict_node_list_node_value_node.Given as goal

abbrev pub decreases-dict_node : goal.decreases-dict_node
decreases-dict_node l =
    l.left + (length l.text.now - l.from)

abbrev pub invariant-dict_node-loop-start : goal.invariant-dict_node-loop-start
invariant-dict_node-loop-start l =
    (m : ℕ) → Loop Pairs (value (l.left - 1)) l.text (l.from - 1) l.n m l.initial.notes l.notes l.p l.i l.count

abbrev pub decreases-dict_node-loop-start : goal.decreases-dict_node-loop-start
decreases-dict_node-loop-start l =
    length l.text - l.p

abbrev pub decreases-list_node : goal.decreases-list_node
decreases-list_node l =
    l.left + (length l.text.now - l.from)

abbrev pub invariant-list_node-loop-start : goal.invariant-list_node-loop-start
invariant-list_node-loop-start l =
    (m : ℕ) → Loop Items (value (l.left - 1)) l.text (l.from - 1) l.n m l.initial.notes l.notes l.p l.i l.count

abbrev pub decreases-list_node-loop-start : goal.decreases-list_node-loop-start
decreases-list_node-loop-start l =
    length l.text - l.p

abbrev pub decreases-value_node : goal.decreases-value_node
decreases-value_node l =
    l.left + (length l.text.now - l.at)
