-- What is claimed of the status: each claim is a type, and proofs/Claims.antt has a term of it.
-- Assumes nothing.
use Rattle.std.specs.Prelude.{◌≤◌}
use Rattle.command_outputs.specs.declared.outcomes.Outcome.{Outcome}
use Rattle.command_outputs.specs.Outcomes.{status_of}

-- so a script that knows 0 to 3 knows all
abbrev pub StatusesToThree : Type 0
StatusesToThree = (outcome : Outcome) → status_of outcome ≤ 3
