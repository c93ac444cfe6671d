-- The invariant: the place and the digits behind it end where the run does (Runs).
use mathlib.Core.Path.{◌≡◌}
use Prim.Native.Nat.{◌+◌, ◌-◌, ◌≤◌}
use lib.ListN.{length}
use Rattle.tokens.specs.Words.{is_digit}
use Rattle.tokens.proofs.Runs.{behind}
use Rattle.tokens.proofs.numbers.digits.Given as goal

abbrev pub invariant-loop-at : goal.invariant-loop-at
invariant-loop-at l =
    (l.at ≤ length l.s) × (l.at + behind is_digit l.s l.at ≡ l.from + behind is_digit l.s l.from)

abbrev pub decreases-loop-at : goal.decreases-loop-at
decreases-loop-at l =
    length l.s - l.at
