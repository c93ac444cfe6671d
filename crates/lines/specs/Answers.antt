-- A line read into a room: the code's answer in document 01's numbers, and what the buffer holds.
-- Assumes nothing.
use Rattle.std.specs.Prelude.{ℕ, List, ◌++◌, ltb, length, drop, Option, Some, None, Result, Ok, Err}
use Rattle.prelude.specs.Limits.{line_max}
use Rattle.prelude.specs.Pick.{pick}
use Rattle.prelude.specs.declared.refusals.Refused.{Refused}
use Rattle.prelude.specs.Refusals.{too_long, no_room, number_of, refused_at}
use Rattle.lines.specs.declared.read.Payload.{Payload}
use Rattle.lines.specs.Line.{LineRead, ignored, holds, faulty, read_line}

-- "all else is right, and the result is longer than the room"
abbrev pub fitted_line : ℕ → LineRead → LineRead
fitted_line room ignored = ignored
fitted_line room (holds kind bs) = pick (ltb room (length bs)) (faulty no_room 0) (holds kind bs)
fitted_line room (faulty refusal at) = faulty refusal at

-- a whole line, read into a room of so many bytes: "a line over 1,024 (1,024)"; then its leftmost fault, then 12
unfoldable pub read_line_text : ℕ → List ℕ → LineRead
read_line_text room l = pick (ltb line_max (length l)) (faulty too_long line_max) (fitted_line room (read_line l))

-- the code's answer
abbrev pub payload_of : ℕ → ℕ → Payload
payload_of kind len = record { kind = kind; len = len }

abbrev pub line_of : LineRead → Result (Option Payload) Refused
line_of ignored = Ok None
line_of (holds kind bs) = Ok (Some (payload_of kind (length bs)))
line_of (faulty refusal at) = Err (refused_at refusal at)

-- an answer in document 01's numbers: the refusal's number and place, the payload's kind and length; 0 for what doesn't apply
pub record LineNumbers : Type 0 where
  pub number : ℕ
  pub place : ℕ
  pub kind : ℕ
  pub size : ℕ

abbrev pub line_numbers : Result (Option Payload) Refused → LineNumbers
line_numbers (Ok None) = record { number = 0; place = 0; kind = 0; size = 0 }
line_numbers (Ok (Some p)) = record { number = 0; place = 0; kind = p.kind; size = p.len }
line_numbers (Err f) = record { number = number_of f.refusal; place = f.place; kind = 0; size = 0 }

-- the string's bytes in front of what was there, or all as it was
abbrev pub line_into : LineRead → List ℕ → List ℕ
line_into ignored out = out
line_into (holds kind bs) out = bs ++ drop (length bs) out
line_into (faulty refusal at) out = out
