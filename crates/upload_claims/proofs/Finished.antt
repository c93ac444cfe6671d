-- What a finished text leaves, read off the definition by its first refusal.
-- Assumes nothing.
use Prim.Native.Nat.{ℕ}
use mathlib.Core.Bool.{true}
use mathlib.Core.List.{List}
use mathlib.Core.Path.{◌≡◌, refl, ap}
use native.Mathlib.Omega.{arith}
use lib.ListN.{length, take}
use lib.Seq.{take_all, length-take-le}
use Rattle.prelude.specs.declared.refusals.Refusal.{Refusal}
use Rattle.records.specs.Records.{Fault, none, refuse}
use Rattle.j8_lines.specs.Lines.{cut, records, FirstFault, first_fault, open_fault, left, end_by, j8_lines}
use Rattle.upload_claims.specs.Claims.{or_open_line, first_refusal, Finished}
use Rattle.j8_lines.proofs.Snoc.{fault_inside}
use Rattle.j8_lines.proofs.Step.{standing, fault_none}
use Rattle.j8_lines.proofs.WholeList.{ended_none, ended_refused}

by_open : (f : Fault) (t line out : List ℕ) → (first_fault (length out) t).before ≡ length t → Finished f t out (end_by f t line out)
unfolding left
by_open none t line out e = (refl, refl, refl, refl)
by_open (refuse n p) t line out e = rw (e, take_all (length t) t (omega arith)) (refl, refl, refl, refl, refl, refl, refl)

by_byte_lem : (t line out : List ℕ) (n : Refusal) (p : ℕ) (text : List ℕ) → length t ≡ (first_fault (length out) text).before → t ≡ take (first_fault (length out) text).before text
    → Finished (refuse n p) text out (standing t (refuse n p) line out)
unfolding left
by_byte_lem t line out n p text h e = (refl, refl, refl, h, refl, rw e, rw e)

by_first_lem : (f : Fault) (t line out : List ℕ) → (first_fault (length out) t).why ≡ f
    → Finished (or_open_line f (length out) t) t out (j8_lines t true line out)
by_first_lem none t line out e =
    rw (ended_none t line out e)
    (by_open (open_fault (length out) (length (records (cut t).closed)) (cut t).open_line) t line out (ap (λ (s : FirstFault). s.before) (fault_none (length out) t e)))
by_first_lem (refuse n p) t line out e =
    let h : length (take (first_fault (length out) t).before t) ≡ (first_fault (length out) t).before =
    length-take-le (first_fault (length out) t).before t (fault_inside (length out) t) in
    rw (ended_refused t line out n p e) (by_byte_lem (take (first_fault (length out) t).before t) line out n p t h refl)

pub as_finished : (t line out : List ℕ) → Finished (first_refusal (length out) t) t out (j8_lines t true line out)
as_finished t line out = by_first_lem (first_fault (length out) t).why t line out refl
