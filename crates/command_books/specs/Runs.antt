-- How a run on lines or names can end, whatever was read and whatever the system says.
-- Assumes nothing.
use Rattle.std.specs.Prelude.{Bool, true, false}
use Rattle.messages.specs.declared.Spot.TheVariants.{Line, Text, Quoted}
use Rattle.command_outputs.specs.declared.outcomes.Outcome.{Outcome}
use Rattle.command_outputs.specs.declared.outcomes.Outcome.TheVariants.{Done, Refused, Long, Mixed, Misused, Unread, Unwritten}

-- not by wrong words, nor as a text that is read whole
abbrev pub is_of_lines : Outcome → Bool
is_of_lines Done = true
is_of_lines (Refused number (Line line) place) = true
is_of_lines (Refused number (Text line column) place) = false
is_of_lines (Refused number Quoted place) = false
is_of_lines (Long size) = false
is_of_lines (Mixed line) = true
is_of_lines (Misused wrong) = false
is_of_lines (Unread error) = true
is_of_lines (Unwritten error) = true
