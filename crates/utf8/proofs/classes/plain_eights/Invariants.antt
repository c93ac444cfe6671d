-- The invariant: whole eights were passed, and the run of plain bytes ends where it did.
use Prim.Native.Nat.{ℕ, ◌+◌, ◌-◌, ◌*◌, ◌≤◌}
use mathlib.Core.List.{List}
use mathlib.Core.Path.{◌≡◌}
use lib.ListN.{length, drop}
use Rattle.utf8.specs.Class.{plain_run}
use Rattle.utf8.proofs.classes.plain_eights.Given as goal

pub record Going (s : List ℕ) (from i : ℕ) : Type 0 where
  pub turns : ℕ
  pub inside : i ≤ length s
  pub place : i ≡ from + 8 * turns
  pub same : i + plain_run (drop i s) ≡ from + plain_run (drop from s)

abbrev pub invariant-loop-i : goal.invariant-loop-i
invariant-loop-i l =
    Going l.s l.from l.i

abbrev pub decreases-loop-i : goal.decreases-loop-i
decreases-loop-i l =
    length l.s - l.i
