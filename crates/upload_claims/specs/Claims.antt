-- What is claimed of the upload's calls and the J8 Lines definition, beside the contracts: each claim is a type, and proofs/Claims.antt has
-- a term of it.
-- Assumes nothing.
use Rattle.std.specs.Prelude.{ℕ, ◌+◌, ◌≤◌, ◌<◌, true, false, List, [], ◌∷◌, ◌++◌, Option, Some, None, Result, Ok, Err, ◌⊎◌, ◌≡◌, length, take}
use Rattle.prelude.specs.Bytes.{IsBytes, ascii, LF}
use Rattle.prelude.specs.Limits.{upload_max, line_max}
use Rattle.prelude.specs.declared.refusals.Refusal.{Refusal}
use Rattle.prelude.specs.declared.refusals.Refused.{Refused}
use Rattle.prelude.specs.Refusals.{too_long, no_room, over_limit, ended, TextFault, number_of, refused_at}
use Rattle.utf8.specs.Utf8.{char_len, char_fault, valid_utf8}
use Rattle.notation.specs.declared.styles.Style.TheVariants.{Unicode}
use Rattle.notation.specs.Marks.{opens, opening}
use Rattle.lines.specs.declared.read.Payload.{Payload}
use Rattle.lines.specs.Answers.{line_numbers}
use Rattle.lines.specs.Line.{holds, bare_from, strip, read_line}
use Rattle.records.specs.Records.{Fault, none, refuse}
use Rattle.lines_write.specs.Write.{right_records, write_quoted}
use Rattle.upload.specs.declared.uploads.Upload.{Upload}
use Rattle.upload.specs.declared.uploads.Answer.{Answer}
use Rattle.upload.specs.Calls.{Lent, lent, with_counts, Called}
use Rattle.j8_lines.specs.Lines.{cut, records, records_of, front, first_fault, open_fault, j8_lines}
use Rattle.j8_lines.specs.Lists.{Call, feeds, finishes, call, run, began, joined, finished, defined, decode}

-- the answers of a list of calls, in order, from a state and two buffers
unfoldable pub answers : Lent → List Call → List Answer
answers m [] = []
answers m (c ∷ cs) = (call m c).answer ∷ answers (call m c).lent cs

-- the definition's: each call's answer is that of the calls up to and with it; `before` have gone before
unfoldable pub defined_answers : List Call → List Call → List ℕ → List ℕ → List Answer
defined_answers before [] line out = []
defined_answers before (c ∷ cs) line out =
    (defined (before ++ (c ∷ [])) line out).answer ∷ defined_answers (before ++ (c ∷ [])) cs line out

pub record AsDefined (cs : List Call) (line out : List ℕ) : Type 0 where
  pub state_and_buffers : (run (began line out) cs).lent ≡ j8_lines (joined cs) (finished cs) line out
  pub each_answer : answers (began line out).lent cs ≡ defined_answers [] cs line out

-- Demand 3: "Take any list of feeds and finishes of one J8 Lines upload, in any order, empty pieces and refused calls included. .. After
-- every such list, the state and both buffers are exactly what the J8 Lines definition gives for the joined text, finished or not, and each
-- call's answer is what it gives for the calls up to and with that one."
abbrev pub EveryListOfCalls : Type 0
EveryListOfCalls = (cs : List Call) (line out : List ℕ) → line_max ≤ length line → AsDefined cs line out

-- "lists of one or more feeds and no finish, alike in the joined text and in the buffers first lent, end in the same state, buffers and last
-- answer, whatever the pieces"; with no feed at all, zeros stand for the answer
abbrev pub PiecesDoNotMatter : Type 0
PiecesDoNotMatter =
    (cs ds : List Call) (line out : List ℕ) → line_max ≤ length line → finished cs ≡ false → finished ds ≡ false
    → joined cs ≡ joined ds → run (began line out) cs ≡ run (began line out) ds

-- what an upload is refused for: 2, a fault in a line, 12 or 17
abbrev pub UploadFault : Refusal → Type 0
UploadFault r = (r ≡ too_long) ⊎ (TextFault r ⊎ ((r ≡ no_room) ⊎ (r ≡ over_limit)))

-- the number of a refusal of which P holds
abbrev pub NumberOf : (Refusal → Type 0) → ℕ → Type 0
NumberOf P n = (r : Refusal) × (P r × (n ≡ number_of r))

-- 0, the number of one of these, or 18; never 5
abbrev pub Answered : ℕ → Type 0
Answered n = (n ≡ 0) ⊎ (NumberOf UploadFault n ⊎ (n ≡ number_of ended))

-- the last call of every list, so each call
abbrev pub AnswersNumbered : Type 0
AnswersNumbered = (cs : List Call) (line out : List ℕ) → line_max ≤ length line → Answered (run (began line out) cs).answer.number

-- request [2], "lines .. pass it up; places stay", of bare ones: where no character stands, the refusal is its fault, there
abbrev pub FaultsPassedUp : Type 0
FaultsPassedUp =
    (p : ℕ) (s : List ℕ) → 0 < length s → char_len s ≡ 0
    → (fault : Refusal) × ((char_fault s ≡ Some fault) × (bare_from p 0 s ≡ Err (refused_at fault p)))

-- the first refusal of a finished text: a byte's, or else the open line's
abbrev pub or_open_line : Fault → ℕ → List ℕ → Fault
or_open_line none room text = open_fault room (length (records (cut text).closed)) (cut text).open_line
or_open_line (refuse refusal at) room text = refuse refusal at

abbrev pub first_refusal : ℕ → List ℕ → Fault
first_refusal room text = or_open_line (first_fault room text).why room text

-- an upload ended with nothing refused: these records at the output's front, and the rest as lent
abbrev pub EndedWith : List ℕ → List ℕ → Lent → Type 0
EndedWith rs out m =
    (m.state.refusal ≡ 0) × (m.state.ended ≡ true) × (m.state.used ≡ length rs) × (m.out ≡ front rs out)

-- what a finished text leaves, by its first refusal: all its records; or those of the lines before the refused byte, and the refusal
abbrev pub Finished : Fault → List ℕ → List ℕ → Lent → Type 0
Finished none text out m = EndedWith (records_of true text) out m
Finished (refuse refusal at) text out m =
    (m.state.refusal ≡ number_of refusal) × (m.state.place ≡ at) × (m.state.line ≡ m.state.lfs + 1)
    × (m.state.taken ≡ (first_fault (length out) text).before)
    × (m.state.ended ≡ false)
    × (m.state.used ≡ length (records (cut (take (first_fault (length out) text).before text)).closed))
    × (m.out ≡ front (records (cut (take (first_fault (length out) text).before text)).closed) out)

-- "After a finish the output holds all the text's records, or those before the first refusal, which the state then holds."
abbrev pub RecordsAfterFinish : Type 0
RecordsAfterFinish =
    (cs : List Call) (line out : List ℕ) → line_max ≤ length line → finished cs ≡ true
    → Finished (first_refusal (length out) (joined cs)) (joined cs) out (run (began line out) cs).lent

-- every line is at most so many bytes long
abbrev pub Within : ℕ → List (List ℕ) → Type 0
Within n [] = Unit
Within n (l ∷ ls) = (length l ≤ n) × Within n ls

-- Demand 2, of lines: "written so that it reads back the same". Records that the Lines writer takes, written, uploaded in any pieces and
-- finished, are all the records of the upload, where each line, the text and the records stay within their limits
abbrev pub WrittenLinesReadBack : Type 0
WrittenLinesReadBack =
    (rs : List ℕ) (cs : List Call) (line out : List ℕ) → line_max ≤ length line
    → IsBytes rs → right_records 0 rs ≡ true → joined cs ≡ write_quoted rs → finished cs ≡ true
    → Within line_max (cut (write_quoted rs)).closed → length (write_quoted rs) ≤ upload_max → length rs ≤ length out
    → EndedWith rs out (run (began line out) cs).lent

-- every list of calls is the decoding of a text and a plan, so `replay` runs every list
abbrev pub EveryListIsEncoded : Type 0
EveryListIsEncoded = (cs : List Call) → (text : List ℕ) × (plan : List ℕ) × (decode text plan ≡ cs)

-- "Whole case, 22 bytes fed, then finish"
abbrev pub case_text : List ℕ
case_text = ascii "scans/a b" ++ (LF ∷ ascii "b'x\\yff'" ++ (LF ∷ LF ∷ ascii "''"))

-- "LFs read: 3."; nothing is held
abbrev pub case_state : Upload
case_state =
    record {
      taken = 22;
      lfs = 3;
      held = 0;
      used = 23;
      ended = true;
      refusal = 0;
      line = 0;
      place = 0;
    }

-- "Output, 23 bytes"
abbrev pub case_out : List ℕ
case_out =
    0x09 ∷ 0x00 ∷ 0x01 ∷ 0x00 ∷ ascii "scans/a b"
    ++ (0x02 ∷ 0x00 ∷ 0x02 ∷ 0x00 ∷ 0x78 ∷ 0xff ∷ 0x00 ∷ 0x00 ∷ 0x01 ∷ 0x00 ∷ [])

-- one feed and a finish, with a line buffer and an output of just the size that is needed, whatever they hold
abbrev pub WholeCase : Type 0
WholeCase =
    (line out : List ℕ) → length line ≡ line_max → length out ≡ 23
    → (length case_text ≡ 22) × ((run (began line out) (feeds case_text ∷ finishes ∷ [])).lent.state ≡ case_state)
    × ((run (began line out) (feeds case_text ∷ finishes ∷ [])).lent.out ≡ case_out)

-- Records handed on between two calls: `used` is set to 0, and nothing else is changed (include/j8.h).
abbrev pub emptied : Upload → Upload
emptied s = with_counts s s.taken s.lfs s.held 0

-- the records that an output holds
abbrev pub records_in : Lent → List ℕ
records_in m = take m.state.used m.out

-- a call, or the records handed on
pub data Turn : Type 0 where
  calls : Call → Turn
  hands : Turn

-- the records handed on so far, and what the last call left
pub record Handing : Type 0 where
  pub handed : List ℕ
  pub last : Called

unfoldable pub turn : Handing → Turn → Handing
turn d (calls c) = record { handed = d.handed; last = call d.last.lent c }
turn d hands =
    record {
      handed = d.handed ++ records_in d.last.lent;
      last =
          record {
            lent = lent (emptied d.last.lent.state) d.last.lent.line d.last.lent.out;
            answer = d.last.answer;
          };
    }

unfoldable pub turns : Handing → List Turn → Handing
turns d [] = d
turns d (t ∷ ts) = turns (turn d t) ts

abbrev pub handing : List ℕ → List ℕ → List Turn → Handing
handing line out ts = turns (record { handed = []; last = began line out }) ts

-- the calls alone
unfoldable pub calls_of : List Turn → List Call
calls_of [] = []
calls_of (calls c ∷ ts) = c ∷ calls_of ts
calls_of (hands ∷ ts) = calls_of ts

-- two uploads that differ only in where their records stand: those of one are handed on in part
pub record Alike (handed : List ℕ) (d m : Called) : Type 0 where
  pub state : emptied d.lent.state ≡ emptied m.lent.state
  pub line : d.lent.line ≡ m.lent.line
  pub records : handed ++ records_in d.lent ≡ records_in m.lent
  pub answer : d.answer ≡ m.answer

-- An upload whose records are handed on between its calls, in an output of any length, is like one that is left alone, unless a record
-- finds no room in one of the two outputs
abbrev pub HandingOnChangesNothing : Type 0
HandingOnChangesNothing =
    (ts : List Turn) (line small large : List ℕ)
    → ((handing line small ts).last.lent.state.refusal ≡ number_of no_room → ⊥)
    → ((run (began line large) (calls_of ts)).lent.state.refusal ≡ number_of no_room → ⊥)
    → Alike (handing line small ts).handed (handing line small ts).last (run (began line large) (calls_of ts))

-- "an accepted u'' string always gives valid UTF-8": through a line, whose record has kind 1 then
abbrev pub UnicodeLinesAreUtf8 : Type 0
UnicodeLinesAreUtf8 =
    (l bs : List ℕ) (n kind : ℕ) → opening (strip l) ≡ opens Unicode n → read_line l ≡ holds kind bs → (kind ≡ 1) × (valid_utf8 bs ≡ true)

-- a kind is a number other than 0
abbrev pub LineNumbered : Result (Option Payload) Refused → Type 0
LineNumbered (Ok None) = Unit
LineNumbered (Ok (Some v)) = v.kind ≡ 0 → ⊥
LineNumbered (Err f) = Unit

-- an answer's numbers lose nothing of it: one set of numbers, one answer
abbrev pub LinesTellAll : Type 0
LinesTellAll =
    (v w : Result (Option Payload) Refused) → LineNumbered v → LineNumbered w → line_numbers v ≡ line_numbers w → v ≡ w
