-- What a list of calls is answered: the definition's first refusal, byte by byte and then of the open line, or that the upload has ended; and that
-- a bare line hands on its character's fault.
-- Assumes nothing.
use Prim.Native.Nat.{ℕ, zero, suc, ◌+◌, ◌<◌}
use mathlib.Core.Bool.{Bool, true, false}
use mathlib.Core.List.{List, [], ◌∷◌}
use mathlib.Core.Logic.{◌⊎◌, inl, inr}
use mathlib.Core.Path.{◌≡◌, refl}
use Rattle.std.specs.Prelude.{Some, Err}
use native.Mathlib.Omega.{arith}
use lib.Dec.{leb, eqb}
use lib.ListN.{length, take}
use Rattle.prelude.specs.Bytes.{LF}
use Rattle.prelude.specs.Limits.{line_max, upload_max}
use Rattle.prelude.specs.declared.refusals.Refusal.{Refusal}
use Rattle.prelude.specs.Refusals.{refused_at}
use Rattle.prelude.proofs.Picks.{pick_case}
use Rattle.utf8.specs.Utf8.{char_len, char_fault}
use Rattle.utf8.proofs.Characters.{high_start}
use Rattle.utf8.proofs.Faults.{fault_told}
use Rattle.lines.specs.Line.{LineRead, ignored, holds, faulty, bare_from, leads, strip, read_line}
use Rattle.lines.proofs.BareTexts.{bare_stuck}
use Rattle.lines.proofs.Refusing.{LineFault, line_fault_lem}
use Rattle.records.specs.Records.{Fault, none, refuse, record_of, fault_by, line_fault}
use Rattle.upload.specs.declared.uploads.Upload.{Upload}
use Rattle.upload.specs.declared.uploads.Answer.{Answer}
use Rattle.j8_lines.specs.Lines.{cut, records, fault_behind, fault_of_byte, FirstFault, or_else, first_from, first_fault, open_fault, fault_number, left, end_by, by_finish, j8_lines, j8_answer}
use Rattle.upload_claims.specs.Claims.{UploadFault, NumberOf, Answered}

abbrev Why : Fault → Type 0
Why none = Unit
Why (refuse refusal at) = UploadFault refusal

by_line : (room used m : ℕ) (r : LineRead) → LineFault m r → Why (fault_by room used r)
by_line room used m ignored h = tt
by_line room used m (holds kind payload) h = pick_case Why (leb (used + length (record_of kind payload)) room) _ _ (λ e. tt) (λ e. inr (inr (inl refl)))
by_line room used m (faulty refusal at) h = inr (inl h.0)

line_why : (room used : ℕ) (l : List ℕ) → Why (line_fault room used l)
unfolding line_fault
line_why room used l = by_line room used (leads l + length (strip l)) (read_line l) (line_fault_lem l)

byte_why : (room : ℕ) (before : List ℕ) (b : ℕ) → Why (fault_behind room before b)
unfolding fault_behind
byte_why room before b =
    pick_case Why (eqb (length before) upload_max) _ _ (λ e. inr (inr (inr refl)))
    (λ e. pick_case Why (eqb b LF) _ _ (λ d. line_why room (length (records (cut before).closed)) (cut before).open_line)
    (λ d. pick_case Why (eqb (length (cut before).open_line) line_max) _ _ (λ c. inl refl) (λ c. tt)))

either : (p : ℕ) (f : Fault) (later : FirstFault) → Why f → Why later.why → Why (or_else p f later).why
either p none later h g = g
either p (refuse refusal at) later h g = h

first_why : (room : ℕ) (text : List ℕ) (p n : ℕ) → Why (first_from room text p n).why
unfolding first_from
first_why room text p zero = tt
first_why room text p (suc n) =
    either p (fault_of_byte room text p) (first_from room text (suc p) n) (byte_why room (take p text) _) (first_why room text (suc p) n)

open_why : (room used : ℕ) (l : List ℕ) → Why (open_fault room used l)
open_why room used [] = tt
open_why room used (b ∷ l) = line_why room used (b ∷ l)

-- the state's refusal
abbrev Kept : ℕ → Type 0
Kept n = (n ≡ 0) ⊎ NumberOf UploadFault n

kept : (f : Fault) → Why f → Kept (fault_number f)
kept none h = inl refl
kept (refuse refusal at) h = inr (refusal, (h, refl))

end_kept : (f : Fault) (taken line out : List ℕ) → Why f → Kept (end_by f taken line out).state.refusal
unfolding left
end_kept none taken line out h = inl refl
end_kept (refuse refusal at) taken line out h = inr (refusal, (h, refl))

finish_kept : (finish : Bool) (why : Fault) (taken line out : List ℕ) → Why why → Kept (by_finish finish why taken line out).state.refusal
unfolding left
finish_kept false why taken line out h = kept why h
finish_kept true (refuse refusal at) taken line out h = inr (refusal, (h, refl))
finish_kept true none taken line out h =
    end_kept (open_fault (length out) (length (records (cut taken).closed)) (cut taken).open_line) taken line out
    (open_why (length out) (length (records (cut taken).closed)) (cut taken).open_line)

lines_kept : (text : List ℕ) (finish : Bool) (line out : List ℕ) → Kept (j8_lines text finish line out).state.refusal
unfolding j8_lines
lines_kept text finish line out =
    finish_kept finish (first_fault (length out) text).why (take (first_fault (length out) text).before text) line out
    (first_why (length out) text 0 (length text))

told : (n : ℕ) → Kept n → Answered n
told n (inl e) = inl e
told n (inr h) = inr (inl h)

answered : (s : Upload) (earlier : Bool) → Kept s.refusal → Answered (j8_answer s earlier).number
unfolding j8_answer
answered s earlier h =
    pick_case (λ (a : Answer). Answered a.number) (eqb s.refusal 0) _ _
    (λ e. pick_case (λ (a : Answer). Answered a.number) earlier _ _ (λ d. inr (inr refl)) (λ d. inl refl))
    (λ e. told s.refusal h)

pub lines_answered : (text : List ℕ) (finish earlier : Bool) (line out : List ℕ) → Answered (j8_answer (j8_lines text finish line out).state earlier).number
lines_answered text finish earlier line out = answered (j8_lines text finish line out).state earlier (lines_kept text finish line out)

pub passed_up : (p : ℕ) (s : List ℕ) → 0 < length s → char_len s ≡ 0
    → (fault : Refusal) × ((char_fault s ≡ Some fault) × (bare_from p 0 s ≡ Err (refused_at fault p)))
passed_up p [] h e = absurd (omega arith)
passed_up p (x ∷ r) h e =
    let (fault, (q, b)) = fault_told (x ∷ r) e in (fault, (q, bare_stuck p (x ∷ r) fault h e q (omega (arith, high_start x r e))))
