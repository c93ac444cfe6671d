-- Records: "payload length (two bytes, little-endian), kind (two bytes, little-endian), payload", and a line's record behind others.
-- Assumes nothing.
use Rattle.std.specs.Prelude.{ℕ, ◌+◌, ◌/◌, ◌%◌, List, [], ◌∷◌, ◌++◌, leb, length, take, drop, Result, Ok, Err}
use Rattle.prelude.specs.Pick.{pick}
use Rattle.prelude.specs.declared.refusals.Refusal.{Refusal}
use Rattle.prelude.specs.declared.refusals.Refused.{Refused}
use Rattle.prelude.specs.Refusals.{no_room, refused_at}
use Rattle.lines.specs.Line.{LineRead, ignored, holds, faulty, read_line}

-- the bytes before a payload
abbrev pub head_size : ℕ
head_size = 4

abbrev pub head : ℕ → ℕ → List ℕ
head n kind = n % 256 ∷ n / 256 % 256 ∷ kind % 256 ∷ kind / 256 % 256 ∷ []

abbrev pub record_of : ℕ → List ℕ → List ℕ
record_of kind payload = head (length payload) kind ++ payload

-- the bytes that a line adds to the output
abbrev pub record_by : LineRead → List ℕ
record_by ignored = []
record_by (holds kind payload) = record_of kind payload
record_by (faulty refusal at) = []

unfoldable pub line_record : List ℕ → List ℕ
line_record l = record_by (read_line l)

-- why a line is refused: not at all, or a refusal and its place
pub data Fault : Type 0 where
  none : Fault
  refuse : Refusal → ℕ → Fault

-- a fault, or "Lines that don't fit whole give 12", behind the `used` bytes of earlier records
abbrev pub fault_by : ℕ → ℕ → LineRead → Fault
fault_by room used ignored = none
fault_by room used (holds kind payload) = pick (leb (used + length (record_of kind payload)) room) none (refuse no_room 0)
fault_by room used (faulty refusal at) = refuse refusal at

unfoldable pub line_fault : ℕ → ℕ → List ℕ → Fault
line_fault room used l = fault_by room used (read_line l)

-- bytes put into a list at a place
abbrev pub put_at : List ℕ → ℕ → List ℕ → List ℕ
put_at out used r = take used out ++ (r ++ drop (used + length r) out)

-- a line read and its record put behind `used` bytes of the output: how many bytes are added, or the refusal; and the output
pub record Appended : Type 0 where
  pub added : Result ℕ Refused
  pub out : List ℕ

abbrev pub append_by : Fault → List ℕ → List ℕ → ℕ → Appended
append_by none l out used = record { added = Ok (length (line_record l)); out = put_at out used (line_record l) }
append_by (refuse refusal at) l out used = record { added = Err (refused_at refusal at); out = out }

unfoldable pub append_line : List ℕ → List ℕ → ℕ → Appended
append_line l out used = append_by (line_fault (length out) used l) l out used

-- what the code answers, with the output as it leaves it
abbrev pub added_as : Result ℕ Refused → List ℕ → Appended
added_as r out = record { added = r; out = out }
