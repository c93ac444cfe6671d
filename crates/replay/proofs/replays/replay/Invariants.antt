-- The invariant: running the calls still to come from here gives what the whole list gives; `whole_list` makes it the definition's.
use Prim.Native.Nat.{◌-◌, ◌≤◌}
use mathlib.Core.Path.{◌≡◌}
use lib.ListN.{length, drop}
use Rattle.upload.specs.Calls.{lent}
use Rattle.j8_lines.specs.Lists.{run, began, decode}
use Rattle.replay.proofs.replays.replay.Given as goal

abbrev pub invariant-loop-i : goal.invariant-loop-i
invariant-loop-i l =
    (l.i ≤ length l.plan) × (l.at ≤ length l.text)
    × (run (began l.initial.line l.initial.out) (decode l.text l.plan) ≡ run (record { lent = lent l.state l.line l.out; answer = l.answer }) (decode (drop l.at l.text) (drop l.i l.plan)))
    × (length l.line ≡ length l.initial.line) × (length l.out ≡ length l.initial.out)

abbrev pub decreases-loop-i : goal.decreases-loop-i
decreases-loop-i l =
    length l.plan - l.i
