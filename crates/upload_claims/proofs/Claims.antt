-- The claims of specs/Claims.antt, each from the law that has it.
-- Assumes nothing.
use Rattle.std.specs.Prelude.{Some, None, Ok, Err}
use Prim.Native.Nat.{◌≤◌}
use mathlib.Core.List.{[], ◌∷◌}
use mathlib.Core.Path.{◌≡◌, refl, sym, ap}
use native.Mathlib.Omega.{arith}
use lib.ListN.{length}
use Rattle.prelude.specs.Limits.{line_max}
use Rattle.prelude.specs.declared.refusals.Refusal.{Refusal}
use Rattle.prelude.specs.Refusals.{number_of}
use Rattle.prelude.proofs.Numbers.{number_positive, number_injective}
use Rattle.lines.specs.Answers.{LineNumbers}
use Rattle.upload.specs.Calls.{Called}
use Rattle.j8_lines.specs.Lists.{feeds, finishes, run, began, joined, finished, earlier, defined}
use Rattle.j8_lines.proofs.WholeList.{whole_list}
use Rattle.upload_claims.specs.Claims.{EveryListOfCalls, PiecesDoNotMatter, AnswersNumbered, FaultsPassedUp, RecordsAfterFinish, WrittenLinesReadBack, EveryListIsEncoded, WholeCase, HandingOnChangesNothing, case_text, UnicodeLinesAreUtf8, LinesTellAll}
use Rattle.upload_claims.proofs.UnicodeLines.{unicode_line}
use Rattle.upload_claims.proofs.Answers.{each_answer, same_pieces}
use Rattle.upload_claims.proofs.CaseComputed.{case_state_lem, case_out_lem}
use Rattle.upload_claims.proofs.Encoded.{text_of, plan_of, all_lists}
use Rattle.upload_claims.proofs.Finished.{as_finished}
use Rattle.upload_claims.proofs.Handing.{handing_on}
use Rattle.upload_claims.proofs.Numbers.{lines_answered, passed_up}
use Rattle.upload_claims.proofs.WrittenTexts.{text_read, all_read}

pub every_list_of_calls : EveryListOfCalls
unfolding defined run
every_list_of_calls cs line out h =
    let z : line_max ≤ length line = omega arith in
    record { state_and_buffers = ap (λ (r : Called). r.lent) (whole_list cs line out z); each_answer = each_answer line out z [] cs }

pub pieces_do_not_matter : PiecesDoNotMatter
pieces_do_not_matter cs ds line out h a b e =
    rw (whole_list cs line out h, whole_list ds line out h) (same_pieces cs ds line out a b e)

pub answers_numbered : AnswersNumbered
unfolding defined
answers_numbered cs line out h = rw (whole_list cs line out h) (lines_answered (joined cs) (finished cs) (earlier cs) line out)

pub faults_passed_up : FaultsPassedUp
faults_passed_up = passed_up

pub records_after_finish : RecordsAfterFinish
unfolding defined
records_after_finish cs line out h e = rw (whole_list cs line out h, e) (as_finished (joined cs) line out)

pub written_lines_read_back : WrittenLinesReadBack
written_lines_read_back rs cs line out h b e j f w u r =
    all_read (joined cs) rs out (run (began line out) cs).lent (rw j (text_read (length out) rs b e w u r))
    (records_after_finish cs line out h f)

pub every_list_is_encoded : EveryListIsEncoded
every_list_is_encoded cs = (text_of cs, plan_of cs, all_lists cs)

pub whole_case : WholeCase
unfolding defined joined finished
whole_case line out h k =
    let z : line_max ≤ length line = omega arith in
    let e = whole_list (feeds case_text ∷ finishes ∷ []) line out z in
    (refl, rw e (case_state_lem line out k), rw e (case_out_lem line out k))

pub handing_on_changes_nothing : HandingOnChangesNothing
handing_on_changes_nothing = handing_on

pub unicode_lines_are_utf8 : UnicodeLinesAreUtf8
unicode_lines_are_utf8 = unicode_line

-- no refusal has the number 0
none_zero : (r : Refusal) → number_of r ≡ 0 → ⊥
none_zero r e = omega (arith, number_positive r)

pub lines_tell_all : LinesTellAll
lines_tell_all (Ok None) (Ok None) x y p = refl
lines_tell_all (Ok None) (Ok (Some w)) x y p = absurd (y (sym (ap (λ (r : LineNumbers). r.kind) p)))
lines_tell_all (Ok None) (Err f) x y p = absurd (none_zero f.refusal (sym (ap (λ (r : LineNumbers). r.number) p)))
lines_tell_all (Ok (Some v)) (Ok None) x y p = absurd (x (ap (λ (r : LineNumbers). r.kind) p))
lines_tell_all (Ok (Some v)) (Ok (Some w)) x y p =
    let a : v.kind ≡ w.kind = ap (λ (r : LineNumbers). r.kind) p in
    let b : v.len ≡ w.len = ap (λ (r : LineNumbers). r.size) p in λ i. Ok (Some (record { kind = a i; len = b i }))
lines_tell_all (Ok (Some v)) (Err f) x y p = absurd (none_zero f.refusal (sym (ap (λ (r : LineNumbers). r.number) p)))
lines_tell_all (Err f) (Ok None) x y p = absurd (none_zero f.refusal (ap (λ (r : LineNumbers). r.number) p))
lines_tell_all (Err f) (Ok (Some w)) x y p = absurd (none_zero f.refusal (ap (λ (r : LineNumbers). r.number) p))
lines_tell_all (Err f) (Err g) x y p =
    let a : f.refusal ≡ g.refusal = number_injective f.refusal g.refusal (ap (λ (r : LineNumbers). r.number) p) in
    let b : f.place ≡ g.place = ap (λ (r : LineNumbers). r.place) p in λ i. Err (record { refusal = a i; place = b i })
