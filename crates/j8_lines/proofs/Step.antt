-- One byte: what the calls do with it is what one byte more of the text does in the definition; the fault is the same by `same_fault`, and
-- each part of the state by the laws of Snoc.antt.
-- Assumes nothing.
use Prim.Native.Nat.{ℕ, suc, ◌+◌, ◌≤◌}
use mathlib.Core.Bool.{Bool, true, false}
use mathlib.Core.List.{List, [], ◌∷◌, ◌++◌, append_assoc}
use mathlib.Core.Path.{◌≡◌, refl, sym}
use native.Mathlib.Nat.{zero-add}
use native.Mathlib.Omega.{arith}
use lib.Dec.{eqb}
use lib.ListN.{length, take, drop, length-append, length-drop}
use lib.Seq.{take-append-le, get_or-append_seam, take-append_seam, take_all, drop-append-add, drop-drop}
use Rattle.prelude.specs.Bytes.{LF}
use Rattle.prelude.specs.Limits.{line_max}
use Rattle.prelude.specs.Pick.{pick}
use Rattle.prelude.specs.declared.refusals.Refusal.{Refusal}
use Rattle.records.specs.Records.{line_record, Fault, none, refuse, put_at}
use Rattle.upload.specs.Calls.{Lent, stored, held_line, appended, byte_fault, byte_by, feed_byte}
use Rattle.upload.proofs.Kept.{state_path, lent_path, numbered, Ok}
use Rattle.j8_lines.specs.Lines.{cut, records, fault_behind, FirstFault, or_else, first_fault, front, left, by_first, j8_lines}
use Rattle.j8_lines.proofs.Snoc.{cut_lf, cut_byte, count_snoc, records_snoc, buffer_shut, buffer_set, buffer_held, first_snoc, none_end, fault_inside}

-- what is left where the upload isn't ended
abbrev pub standing : List ℕ → Fault → List ℕ → List ℕ → Lent
standing taken why line out = left taken why false line out

-- the bytes of the records at the output's front
pub front_put : (rs r out : List ℕ) → length rs ≤ length out → put_at (front rs out) (length rs) r ≡ front (rs ++ r) out
front_put rs r out h =
    rw (take-append_seam rs (drop (length rs) out), drop-append-add rs (drop (length rs) out) (length r), drop-drop (length r) (length rs) out, length-append rs r, append_assoc rs r (drop (length rs + length r) out))

pub front_length : (rs out : List ℕ) → length rs ≤ length out → length (front rs out) ≡ length out
front_length rs out h = omega (arith, length-append rs (drop (length rs) out), length-drop (length rs) out)

-- where nothing is refused, the records find room, and the open line its place
pub record Roomy (t line out : List ℕ) : Type 0 where
  pub room : length (records (cut t).closed) ≤ length out
  pub short : length (cut t).open_line ≤ line_max
  pub large : line_max ≤ length line

module _ (t line out : List ℕ) (b : ℕ) (s : Roomy t line out) where
  pub held_open : held_line (standing t none line out) ≡ (cut t).open_line
  unfolding left pick
  held_open = buffer_held (cut t).closed [] (cut t).open_line 0 line refl (omega (arith, s.short, s.large))

  same_fault : byte_fault (standing t none line out) b ≡ fault_behind (length out) t b
  unfolding left fault_behind pick
  same_fault = rw (held_open, front_length (records (cut t).closed) out s.room)

  was_lf : eqb b LF ≡ true → appended (standing t none line out) (line_record (cut t).open_line) ≡ standing (t ++ (b ∷ [])) none line out
  unfolding left pick
  was_lf e =
      rw (cut_lf t b e, records_snoc (cut t).closed (cut t).open_line, buffer_shut (cut t).closed (cut t).open_line 0 line)
      (lent_path _ _
      (state_path _ _
      (omega (arith, length-append t (b ∷ [])))
      (rw (count_snoc t b, e))
      refl
      (omega (arith, length-append (records (cut t).closed) (line_record (cut t).open_line)))
      refl
      refl
      refl
      refl)
      refl
      (front_put (records (cut t).closed) (line_record (cut t).open_line) out s.room))

  was_byte : eqb b LF ≡ false → stored (standing t none line out) (b ∷ []) ≡ standing (t ++ (b ∷ [])) none line out
  unfolding left pick
  was_byte e =
      rw (cut_byte t b e)
      (lent_path _ _
      (state_path _ _
      (omega (arith, length-append t (b ∷ [])))
      (rw (count_snoc t b, e) (omega arith))
      (omega (arith, length-append (cut t).open_line (b ∷ [])))
      refl
      refl
      refl
      refl
      refl)
      (sym (buffer_set (cut t).closed (cut t).open_line b (length (cut t).open_line) 0 line (zero-add _)))
      refl)

  taken_byte : (k : Bool) → eqb b LF ≡ k → byte_by none (standing t none line out) b ≡ standing (t ++ (b ∷ [])) none line out
  unfolding pick
  taken_byte true e = rw (e, held_open) (was_lf e)
  taken_byte false e = rw e (was_byte e)

  same_step : (f : Fault) → fault_behind (length out) t b ≡ f → byte_by (byte_fault (standing t none line out) b) (standing t none line out) b ≡ by_first false (or_else (length t) f (record { before = suc (length t); why = none })) (t ++ (b ∷ [])) line out
  same_step none e =
      rw (same_fault, e, take_all (suc (length t)) (t ++ (b ∷ [])) (omega (arith, length-append t (b ∷ [])))) (taken_byte (eqb b LF) refl)
  same_step (refuse n p) e = rw (same_fault, e, take-append_seam t (b ∷ [])) (unfold left in refl)

fault_path : (x y : FirstFault) → x.before ≡ y.before → x.why ≡ y.why → x ≡ y
fault_path x y p q = λ i. record { before = p i; why = q i }

pub fault_none : (room : ℕ) (t : List ℕ) → (first_fault room t).why ≡ none → first_fault room t ≡ record { before = length t; why = none }
fault_none room t e = fault_path _ _ (none_end room t e) e

pub fault_snoc : (room : ℕ) (t : List ℕ) (b : ℕ) → (first_fault room t).why ≡ none → first_fault room (t ++ (b ∷ [])) ≡ or_else (length t) (fault_behind room t b) (record { before = suc (length t); why = none })
fault_snoc room t b e =
    rw (first_snoc room t b, fault_none room t e, take-append_seam t (b ∷ []), get_or-append_seam t b [] 0)

pub fault_kept : (room : ℕ) (t : List ℕ) (b : ℕ) (n : Refusal) (p : ℕ) → (first_fault room t).why ≡ refuse n p → first_fault room (t ++ (b ∷ [])) ≡ first_fault room t
fault_kept room t b n p e = rw (first_snoc room t b, e)

pub defined_none : (t line out : List ℕ) → (first_fault (length out) t).why ≡ none → j8_lines t false line out ≡ standing t none line out
unfolding j8_lines pick
defined_none t line out e = rw (fault_none (length out) t e, take_all (length t) t (omega arith))

pub defined_refused : (t line out : List ℕ) (n : Refusal) (p : ℕ) → (first_fault (length out) t).why ≡ refuse n p → j8_lines t false line out ≡ standing (take (first_fault (length out) t).before t) (refuse n p) line out
unfolding j8_lines pick
defined_refused t line out n p e = rw e

step_none : (t line out : List ℕ) (b : ℕ) → (first_fault (length out) t).why ≡ none → Ok line out (standing t none line out) → feed_byte (standing t none line out) b ≡ j8_lines (t ++ (b ∷ [])) false line out
unfolding feed_byte j8_lines left pick
step_none t line out b e k =
    rw (fault_snoc (length out) t b e)
    (same_step t line out b (record { room = k.used; short = k.held; large = k.large }) (fault_behind (length out) t b) refl)

-- a kept refusal stays
pub stays : (t line out : List ℕ) (n : Refusal) (p b : ℕ) → feed_byte (standing t (refuse n p) line out) b ≡ standing t (refuse n p) line out
unfolding feed_byte left pick
stays t line out n p b = rw (numbered n)

kept : (t line out : List ℕ) (b : ℕ) (n : Refusal) (p : ℕ) → (first_fault (length out) t).why ≡ refuse n p → j8_lines (t ++ (b ∷ [])) false line out ≡ j8_lines t false line out
unfolding j8_lines pick
kept t line out b n p e =
    rw (fault_kept (length out) t b n p e, take-append-le (first_fault (length out) t).before t (b ∷ []) (fault_inside (length out) t))

step_by : (t line out : List ℕ) (b : ℕ) → Ok line out (j8_lines t false line out) → (f : Fault) → (first_fault (length out) t).why ≡ f → feed_byte (j8_lines t false line out) b ≡ j8_lines (t ++ (b ∷ [])) false line out
step_by t line out b k none e = rw (defined_none t line out e) (step_none t line out b e (rw (defined_none t line out e) at k))
step_by t line out b k (refuse n p) e =
    rw (kept t line out b n p e, defined_refused t line out n p e) (stays _ line out n p b)

-- ONE BYTE
pub step : (t line out : List ℕ) (b : ℕ) → Ok line out (j8_lines t false line out) → feed_byte (j8_lines t false line out) b ≡ j8_lines (t ++ (b ∷ [])) false line out
step t line out b k = step_by t line out b k (first_fault (length out) t).why refl
