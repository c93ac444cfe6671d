-- The upload's calls, for any state and any buffers, from document 01's paragraphs on the upload and its state.
-- Assumes nothing.
use Rattle.std.specs.Prelude.{ℕ, ◌+◌, Bool, true, false, ◌&&◌, List, [], ◌∷◌, Option, Some, None, leb, eqb, length, take}
use Rattle.std.proofs.lemmas.List.Edits.{sets}
use Rattle.prelude.specs.Bytes.{LF}
use Rattle.prelude.specs.Limits.{upload_max, line_max}
use Rattle.prelude.specs.Pick.{pick}
use Rattle.prelude.specs.declared.refusals.Refusal.{Refusal}
use Rattle.prelude.specs.Refusals.{unfit, too_long, over_limit, ended, number_of}
use Rattle.records.specs.Records.{line_record, Fault, none, refuse, line_fault, put_at}
use Rattle.upload.specs.declared.uploads.Upload.{Upload}
use Rattle.upload.specs.declared.uploads.Answer.{Answer}
use Rattle.upload.specs.declared.uploads.Fed.{Fed}

-- what a call is lent: a state, and both buffers
pub record Lent : Type 0 where
  pub state : Upload
  pub line : List ℕ
  pub out : List ℕ

abbrev pub lent : Upload → List ℕ → List ℕ → Lent
lent s line out = record { state = s; line = line; out = out }

-- "A fresh state holds 0 for each of these and isn't ended."
abbrev pub fresh : Upload
fresh =
    record {
      taken = 0;
      lfs = 0;
      held = 0;
      used = 0;
      ended = false;
      refusal = 0;
      line = 0;
      place = 0;
    }

-- a state with other counts, and nothing else changed
abbrev pub with_counts : Upload → ℕ → ℕ → ℕ → ℕ → Upload
with_counts s taken lfs held used =
    record {
      taken = taken;
      lfs = lfs;
      held = held;
      used = used;
      ended = s.ended;
      refusal = s.refusal;
      line = s.line;
      place = s.place;
    }

-- a state that is ended, and nothing else changed
abbrev pub with_end : Upload → Upload
with_end s =
    record {
      taken = s.taken;
      lfs = s.lfs;
      held = s.held;
      used = s.used;
      ended = true;
      refusal = s.refusal;
      line = s.line;
      place = s.place;
    }

-- "the refusal with its line (LFs read plus 1) and place in the line as received"; "The byte that causes a refusal isn't taken or counted;
-- a refused finish doesn't end the upload."
abbrev pub with_refusal : Upload → Refusal → ℕ → Upload
with_refusal s refusal at =
    record {
      taken = s.taken;
      lfs = s.lfs;
      held = s.held;
      used = s.used;
      ended = s.ended;
      refusal = number_of refusal;
      line = s.lfs + 1;
      place = at;
    }

abbrev pub keeps_refusal : Lent → Refusal → ℕ → Lent
keeps_refusal m refusal at = lent (with_refusal m.state refusal at) m.line m.out

-- "A byte other than LF is stored in the line buffer at the next place from 0": such bytes, one behind the other
abbrev pub stored : Lent → List ℕ → Lent
stored m bs =
    lent
    (with_counts m.state (m.state.taken + length bs) m.state.lfs (m.state.held + length bs) m.state.used)
    (sets m.line m.state.held bs)
    m.out

-- the line that is held
abbrev pub held_line : Lent → List ℕ
held_line m = take m.state.held m.line

-- "LF reads the held line and appends its record, then clears the held count; nothing else in the line buffer is written."
abbrev pub behind_lf : Upload → ℕ → Upload
behind_lf s used = with_counts s (s.taken + 1) (s.lfs + 1) 0 used

abbrev pub appended : Lent → List ℕ → Lent
appended m r = lent (behind_lf m.state (m.state.used + length r)) m.line (put_at m.out m.state.used r)

-- "Finish .. ends the upload; it counts no line or byte."
abbrev pub at_end : Upload → ℕ → Upload
at_end s used = with_end (with_counts s s.taken s.lfs 0 used)

abbrev pub closing : Lent → List ℕ → Lent
closing m r = lent (at_end m.state (m.state.used + length r)) m.line (put_at m.out m.state.used r)

-- "A byte over the upload limit, LF or not, is 17 before anything else." "A byte other than LF .. is 2 if 1,024 are held."
abbrev pub byte_fault : Lent → ℕ → Fault
byte_fault m b =
    pick (eqb m.state.taken upload_max) (refuse over_limit m.state.held)
    (pick (eqb b LF) (line_fault (length m.out) m.state.used (held_line m))
    (pick (eqb m.state.held line_max) (refuse too_long line_max) none))

abbrev pub byte_by : Fault → Lent → ℕ → Lent
byte_by none m b = pick (eqb b LF) (appended m (line_record (held_line m))) (stored m (b ∷ []))
byte_by (refuse refusal at) m b = keeps_refusal m refusal at

-- one byte; "A refusal stays"
unfoldable pub feed_byte : Lent → ℕ → Lent
feed_byte m b = pick (eqb m.state.refusal 0) (byte_by (byte_fault m b) m b) m

-- "Fed bytes are taken one by one."
unfoldable pub feed_bytes : Lent → List ℕ → Lent
feed_bytes m [] = m
feed_bytes m (b ∷ bs) = feed_bytes (feed_byte m b) bs

-- "Finish reads a held line as if LF came, if any byte is held"
abbrev pub end_fault : Lent → Fault
end_fault m = pick (eqb m.state.held 0) none (line_fault (length m.out) m.state.used (held_line m))

abbrev pub finish_by : Fault → Lent → Lent
finish_by none m = closing m (pick (eqb m.state.held 0) [] (line_record (held_line m)))
finish_by (refuse refusal at) m = keeps_refusal m refusal at

unfoldable pub finish_all : Lent → Lent
finish_all m = finish_by (end_fault m) m

-- "Refusal 1 stands for a short line buffer, held over 1,024, taken over 1,048,576, LFs over taken, or used over the output"
unfoldable pub fit_state : Upload → ℕ → ℕ → Bool
fit_state s line out =
    leb line_max line
    && (leb s.held line_max && (leb s.taken upload_max && (leb s.lfs s.taken && leb s.used out)))

abbrev pub fit_lent : Lent → Bool
fit_lent m = fit_state m.state (length m.line) (length m.out)

-- what a call leaves, and its answer
pub record Called : Type 0 where
  pub lent : Lent
  pub answer : Answer

-- "1 and 18 aren't kept, change nothing and give line 0."
abbrev pub without_line : ℕ → Answer
without_line number = record { number = number; line = 0; place = 0 }

abbrev pub zeros : Answer
zeros = without_line 0

abbrev pub kept_answer : Upload → Answer
kept_answer s = record { number = s.refusal; line = s.line; place = s.place }

-- "Its answer is number, line and place, all 0 where nothing is refused.": whatever line and place such a state holds
unfoldable pub answer_of : Upload → Answer
answer_of s = pick (eqb s.refusal 0) zeros (kept_answer s)

-- "Order in a call: 1, kept refusal, 18.": what stops a call before it does anything, if something does
unfoldable pub stop_state : Upload → ℕ → ℕ → Option Answer
stop_state s line out =
    pick (fit_state s line out)
    (pick (eqb s.refusal 0) (pick s.ended (Some (without_line (number_of ended))) None) (Some (kept_answer s)))
    (Some (without_line (number_of unfit)))

abbrev pub stop_lent : Lent → Option Answer
stop_lent m = stop_state m.state (length m.line) (length m.out)

-- "every later feed or finish repeats it and changes nothing", and 1 and 18 "change nothing" likewise
abbrev pub guarded_by : Option Answer → Lent → Lent → Called
guarded_by (Some answer) m done = record { lent = m; answer = answer }
guarded_by None m done = record { lent = done; answer = answer_of done.state }

abbrev pub guarded : Lent → Lent → Called
guarded m done = guarded_by (stop_lent m) m done

unfoldable pub feed : Lent → List ℕ → Called
feed m piece = guarded m (feed_bytes m piece)

unfoldable pub finish : Lent → Called
finish m = guarded m (finish_all m)

-- what the code returns, with the buffers as it leaves them
abbrev pub called : Fed → List ℕ → List ℕ → Called
called r line out = record { lent = lent r.state line out; answer = r.answer }
