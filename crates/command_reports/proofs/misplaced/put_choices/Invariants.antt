-- The things left to ask for fall.
use Prim.Native.Nat.{◌-◌}
use mathlib.Core.Path.{◌≡◌}
use lib.ListN.{length}
use Rattle.command_reports.proofs.misplaced.put_choices.Given as goal

abbrev pub invariant-loop-k : goal.invariant-loop-k
invariant-loop-k l =
    (length l.text ≡ length l.initial.text) × (length l.table ≡ length l.initial.table) × (length l.store ≡ length l.initial.store) × (length l.said ≡ length l.initial.said)

abbrev pub decreases-loop-k : goal.decreases-loop-k
decreases-loop-k l =
    6 - l.k
