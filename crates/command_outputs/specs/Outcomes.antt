-- The status of a run, by how it ended.
-- Assumes nothing.
use Rattle.std.specs.Prelude.{ℕ, Bool, true, false, List}
use Rattle.positions.specs.Positions.{position_of}
use Rattle.messages.specs.declared.Spot.TheVariants.{Text}
use Rattle.command_outputs.specs.declared.outcomes.Outcome.{Outcome}
use Rattle.command_outputs.specs.declared.outcomes.Outcome.TheVariants.{Done, Refused, Long, Mixed, Misused, Unread, Unwritten}

-- 0 done; 1 the text is refused, or what would be written couldn't be read back; 2 used wrongly; 3 not read or not written
abbrev pub status_of : Outcome → ℕ
status_of Done = 0
status_of (Refused number spot place) = 1
status_of (Long size) = 1
status_of (Mixed line) = 1
status_of (Misused wrong) = 2
status_of (Unread error) = 3
status_of (Unwritten error) = 3

-- the output can't be written, whatever the system says of it
abbrev pub is_unwritten : Outcome → Bool
is_unwritten Done = false
is_unwritten (Refused number spot place) = false
is_unwritten (Long size) = false
is_unwritten (Mixed line) = false
is_unwritten (Misused wrong) = false
is_unwritten (Unread error) = false
is_unwritten (Unwritten error) = true

-- a refusal, with the line and column of its place
abbrev pub refused_at : List ℕ → ℕ → ℕ → Outcome
refused_at text number place = Refused number (Text (position_of text place).line (position_of text place).column) place

-- printed, or not written, as the system has it
abbrev pub is_printed : Outcome → Bool
is_printed Done = true
is_printed (Refused number spot place) = false
is_printed (Long size) = false
is_printed (Mixed line) = false
is_printed (Misused wrong) = false
is_printed (Unread error) = false
is_printed (Unwritten error) = true
