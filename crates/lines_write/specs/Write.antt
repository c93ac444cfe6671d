-- The Lines writer: it "takes records .. and puts each string quoted, one LF after each, however long; 1 if a record is cut short or its
-- kind doesn't fit its payload, then 12".
-- Assumes nothing.
use Rattle.std.specs.Prelude.{ℕ, zero, suc, pred, ◌+◌, ◌*◌, Bool, true, ◌&&◌, List, [], ◌∷◌, ◌++◌, leb, eqb, length, get_or, take, drop, Result, Ok, Err}
use Rattle.prelude.specs.Bytes.{LF}
use Rattle.prelude.specs.Pick.{pick}
use Rattle.prelude.specs.declared.refusals.Refusal.{Refusal}
use Rattle.prelude.specs.Refusals.{unfit, no_room}
use Rattle.strings_write.specs.Write.{write_string}
use Rattle.lines.specs.Line.{kind_of}
use Rattle.records.specs.Records.{head_size}

-- of the record at the head of s: the payload's length, its kind, and the payload
abbrev pub size_at : List ℕ → ℕ
size_at s = get_or s 0 0 + 256 * get_or s 1 0

abbrev pub kind_at : List ℕ → ℕ
kind_at s = get_or s 2 0 + 256 * get_or s 3 0

abbrev pub payload_at : List ℕ → List ℕ
payload_at s = take (size_at s) (drop head_size s)

-- the record at the head of s is there whole, and of its payload's kind
unfoldable pub right_record : List ℕ → Bool
right_record s = leb (head_size + size_at s) (length s) && eqb (kind_at s) (kind_of (payload_at s))

-- all records are right; k bytes are skipped
unfoldable pub right_records : ℕ → List ℕ → Bool
right_records k [] = true
right_records zero (x ∷ r) = right_record (x ∷ r) && right_records (pred (head_size + size_at (x ∷ r))) r
right_records (suc k) (x ∷ r) = right_records k r

-- the line of the record at the head of s
unfoldable pub line_at : List ℕ → List ℕ
line_at s = write_string (payload_at s) ++ (LF ∷ [])

-- the lines of the records; k bytes are skipped
unfoldable pub lines_from : ℕ → List ℕ → List ℕ
lines_from k [] = []
lines_from zero (x ∷ r) = line_at (x ∷ r) ++ lines_from (pred (head_size + size_at (x ∷ r))) r
lines_from (suc k) (x ∷ r) = lines_from k r

-- the text that the writer gives for records
abbrev pub write_quoted : List ℕ → List ℕ
write_quoted records = lines_from 0 records

unfoldable pub wrote_lines : ℕ → List ℕ → Result ℕ Refusal
wrote_lines room records =
    pick (right_records 0 records)
    (pick (leb (length (write_quoted records)) room) (Ok (length (write_quoted records))) (Err no_room))
    (Err unfit)

unfoldable pub lines_into : List ℕ → List ℕ → List ℕ
lines_into records out =
    pick (right_records 0 records)
    (pick (leb (length (write_quoted records)) (length out)) (write_quoted records ++ drop (length (write_quoted records)) out) out)
    out
