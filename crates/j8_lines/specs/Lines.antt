-- The J8 Lines definition, sentence by sentence from document 01: "given the joined text (all bytes fed before the first finish), whether
-- a finish came, and both buffers as first lent". It knows no feeding step and no piece.
-- Assumes nothing.
use Rattle.std.specs.Prelude.{ℕ, zero, suc, ◌+◌, Bool, true, false, List, [], ◌∷◌, ◌++◌, eqb, length, take, drop, get_or}
use Rattle.prelude.specs.Bytes.{LF}
use Rattle.prelude.specs.Limits.{line_max, upload_max}
use Rattle.prelude.specs.Pick.{pick}
use Rattle.prelude.specs.Refusals.{too_long, over_limit, ended, number_of}
use Rattle.records.specs.Records.{line_record, Fault, none, refuse, line_fault}
use Rattle.upload.specs.declared.uploads.Upload.{Upload}
use Rattle.upload.specs.declared.uploads.Answer.{Answer}
use Rattle.upload.specs.Calls.{Lent, zeros}

-- "It cuts the text at its LFs, which belong to no line": the lines that an LF ends, in order, and the open line
pub record Cut : Type 0 where
  pub closed : List (List ℕ)
  pub open_line : List ℕ

-- a byte more at the head of the first line
unfoldable pub headed : ℕ → List (List ℕ) → List ℕ → Cut
headed b [] o = record { closed = []; open_line = b ∷ o }
headed b (l ∷ ls) o = record { closed = (b ∷ l) ∷ ls; open_line = o }

-- "the open line is what follows the last LF, or the whole text if it has none"
unfoldable pub cut : List ℕ → Cut
cut [] = record { closed = []; open_line = [] }
cut (b ∷ text) =
    pick (eqb b LF)
    (record { closed = [] ∷ (cut text).closed; open_line = (cut text).open_line })
    (headed b (cut text).closed (cut text).open_line)

-- the LFs of a text
unfoldable pub count_lf : List ℕ → ℕ
count_lf [] = 0
count_lf (b ∷ text) = pick (eqb b LF) (count_lf text + 1) (count_lf text)

-- the records of lines, in order; "reads each line whole"
unfoldable pub records : List (List ℕ) → List ℕ
records [] = []
records (l ∷ ls) = line_record l ++ records ls

-- Why the byte b is refused that stands behind the bytes `before`: "byte 1,048,577 (17, before anything else there); a line's 1,025th
-- byte (2); an LF whose line has a fault or whose record finds no room behind the earlier ones". 17 has the place "bytes held of this line".
unfoldable pub fault_behind : ℕ → List ℕ → ℕ → Fault
fault_behind room before b =
    pick (eqb (length before) upload_max) (refuse over_limit (length (cut before).open_line))
    (pick (eqb b LF) (line_fault room (length (records (cut before).closed)) (cut before).open_line)
    (pick (eqb (length (cut before).open_line) line_max) (refuse too_long line_max) none))

abbrev pub fault_of_byte : ℕ → List ℕ → ℕ → Fault
fault_of_byte room text p = fault_behind room (take p text) (get_or text p 0)

-- "The refusal .. is the first in the text of these": how many bytes stand before it, and why; all of them where there is none
pub record FirstFault : Type 0 where
  pub before : ℕ
  pub why : Fault

abbrev pub or_else : ℕ → Fault → FirstFault → FirstFault
or_else p none later = later
or_else p (refuse refusal at) later = record { before = p; why = refuse refusal at }

-- the first at the n places from p on
unfoldable pub first_from : ℕ → List ℕ → ℕ → ℕ → FirstFault
first_from room text p zero = record { before = p; why = none }
first_from room text p (suc n) = or_else p (fault_of_byte room text p) (first_from room text (suc p) n)

abbrev pub first_fault : ℕ → List ℕ → FirstFault
first_fault room text = first_from room text 0 (length text)

-- "an open line that isn't empty is read likewise and may be refused"
abbrev pub open_fault : ℕ → ℕ → List ℕ → Fault
open_fault room used [] = none
open_fault room used (b ∷ l) = line_fault room used (b ∷ l)

-- "Held are the bytes taken after the last of these (all if there are none), or 0 if ended."
abbrev pub held_of : Bool → List ℕ → ℕ
held_of false taken = length (cut taken).open_line
held_of true taken = 0

-- "The output begins with the records of the lines whose LF is taken, and of the open line if ended"
abbrev pub records_of : Bool → List ℕ → List ℕ
records_of false taken = records (cut taken).closed
records_of true taken = records (cut taken).closed ++ line_record (cut taken).open_line

-- ".. and the rest is as lent."
abbrev pub front : List ℕ → List ℕ → List ℕ
front rs out = rs ++ drop (length rs) out

-- the last byte at place i of a line, among lines, or else d
unfoldable pub last_at : ℕ → ℕ → List (List ℕ) → ℕ
last_at i d [] = d
last_at i d (l ∷ ls) = last_at i (get_or l i d) ls

-- "Each place of the line buffer holds the last byte taken at that place of a line, or else what was lent."; from place i on
unfoldable pub line_buffer : List (List ℕ) → List ℕ → ℕ → List ℕ → List ℕ
line_buffer ls o i [] = []
line_buffer ls o i (d ∷ ds) = get_or o i (last_at i d ls) ∷ line_buffer ls o (suc i) ds

-- "Where nothing is refused, the state's refusal, its line and its place are 0."
abbrev pub fault_number : Fault → ℕ
fault_number none = 0
fault_number (refuse refusal at) = number_of refusal

abbrev pub fault_place : Fault → ℕ
fault_place none = 0
fault_place (refuse refusal at) = at

-- "its line (LFs read plus 1)"
abbrev pub fault_line : Fault → ℕ → ℕ
fault_line none lfs = 0
fault_line (refuse refusal at) lfs = lfs + 1

-- What is left, by the bytes taken, the refusal behind them, whether the upload is ended, and both buffers as first lent: "Taken are the
-- bytes before the refused one, or all. LFs read are the LFs among them." "used is their length", of the records.
unfoldable pub left : List ℕ → Fault → Bool → List ℕ → List ℕ → Lent
left taken why over line out =
    record {
      state =
          record {
            taken = length taken;
            lfs = count_lf taken;
            held = held_of over taken;
            used = length (records_of over taken);
            ended = over;
            refusal = fault_number why;
            line = fault_line why (count_lf taken);
            place = fault_place why;
          };
      line = line_buffer (cut taken).closed (cut taken).open_line 0 line;
      out = front (records_of over taken) out;
    }

-- the open line's fault decides: "if nothing is refused, the upload is ended"
abbrev pub end_by : Fault → List ℕ → List ℕ → List ℕ → Lent
end_by none taken line out = left taken none true line out
end_by (refuse refusal at) taken line out = left taken (refuse refusal at) false line out

-- "If there is none and a finish came"
abbrev pub by_finish : Bool → Fault → List ℕ → List ℕ → List ℕ → Lent
by_finish false why taken line out = left taken why false line out
by_finish true (refuse refusal at) taken line out = left taken (refuse refusal at) false line out
by_finish true none taken line out =
    end_by (open_fault (length out) (length (records (cut taken).closed)) (cut taken).open_line) taken line out

abbrev pub by_first : Bool → FirstFault → List ℕ → List ℕ → List ℕ → Lent
by_first finish first text line out = by_finish finish first.why (take first.before text) line out

-- the J8 Lines definition: the state and both buffers
unfoldable pub j8_lines : List ℕ → Bool → List ℕ → List ℕ → Lent
j8_lines text finish line out = by_first finish (first_fault (length out) text) text line out

-- "The answer is the refusal; if there is none, 18 after an earlier finish, else zeros."
unfoldable pub j8_answer : Upload → Bool → Answer
j8_answer s earlier =
    pick (eqb s.refusal 0)
    (pick earlier (record { number = number_of ended; line = 0; place = 0 }) zeros)
    (record { number = s.refusal; line = s.line; place = s.place })
