-- The invariant: if nothing was found, each of the first k bytes stands as it is unless it is a control.
use Prim.Native.Nat.{ℕ, ◌+◌, ◌-◌, ◌≤◌, ◌<◌}
use mathlib.Core.Bool.{false}
use mathlib.Core.Path.{◌≡◌}
use lib.ListN.{get_or}
use Rattle.bytewise.proofs.ByteTexts.{AsItIs}
use Rattle.bytewise.proofs.rest.any_slashed.Given as goal

abbrev pub invariant-loop-k : goal.invariant-loop-k
invariant-loop-k l =
    (l.k ≤ 8) × (l.found ≡ false → (i : ℕ) → i < l.k → AsItIs (get_or l.s (l.at + i) 0))

abbrev pub decreases-loop-k : goal.decreases-loop-k
decreases-loop-k l =
    8 - l.k
