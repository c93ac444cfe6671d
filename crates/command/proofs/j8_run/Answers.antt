-- The status is the outcome's, which is at most 3 (Claims).
use Prim.Native.Nat.{ℕ, ◌≤◌}
use mathlib.Core.Path.{sym, subst}
use Rattle.command_outputs.proofs.Claims.{statuses_to_three}
use Rattle.command.proofs.j8_run.Goals as goal

pub returns : goal.returns
returns o c = subst (λ (k : ℕ). k ≤ 3) (sym c.report.ensures) (statuses_to_three c.run-ended.result.outcome)
