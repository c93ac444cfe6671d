-- Each claim of specs/Claims.antt, by the outcome.
-- Assumes nothing.
use native.Mathlib.Omega.{arith}
use Rattle.command_outputs.specs.declared.outcomes.Outcome.TheVariants.{Done, Refused, Long, Mixed, Misused, Unread, Unwritten}
use Rattle.command_outputs.specs.Claims.{StatusesToThree}

pub statuses_to_three : StatusesToThree
statuses_to_three Done = omega arith
statuses_to_three (Refused number spot place) = omega arith
statuses_to_three (Long size) = omega arith
statuses_to_three (Mixed line) = omega arith
statuses_to_three (Misused wrong) = omega arith
statuses_to_three (Unread error) = omega arith
statuses_to_three (Unwritten error) = omega arith
