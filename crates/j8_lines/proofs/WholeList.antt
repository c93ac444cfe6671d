-- The whole list of feeds and finishes, by induction on the list: a feed adds its piece to the definition's text, byte by byte, a finish
-- ends it, and after a finish nothing changes.
-- Assumes nothing.
use Prim.Native.Nat.{ℕ, ◌≤◌}
use mathlib.Core.Bool.{Bool, true, false}
use mathlib.Core.List.{List, [], ◌∷◌, ◌++◌, append_assoc, append-nil}
use mathlib.Core.Path.{◌≡◌, refl, sym, ap, ◌∙◌}
use native.Mathlib.Omega.{arith}
use lib.Dec.{eqb, eqb-suc-zero}
use lib.ListN.{length, take, length-append}
use lib.Seq.{take_all}
use Rattle.prelude.specs.Limits.{line_max}
use Rattle.prelude.specs.declared.refusals.Refusal.{Refusal}
use Rattle.prelude.specs.Pick.{pick}
use Rattle.lines.specs.Line.{read_line, read_stripped, strip, trimmed, leads}
use Rattle.records.specs.Records.{line_record, Fault, none, refuse, line_fault}
use Rattle.upload.specs.Calls.{Lent, lent, fresh, keeps_refusal, closing, feed_bytes, end_fault, finish_by, finish_all, fit_lent, Called, zeros, kept_answer, answer_of, stop_state, guarded, feed, finish}
use Rattle.upload.proofs.Kept.{state_path, lent_path, numbered, Ok, ok_fit, ok_byte, ok_bytes, ok_finish}
use Rattle.j8_lines.specs.Lines.{cut, count_lf, records, first_from, first_fault, open_fault, left, end_by, j8_lines, j8_answer}
use Rattle.j8_lines.specs.Lists.{Call, feeds, finishes, call, run, began, joined, finished, earlier, defined}
use Rattle.j8_lines.proofs.Snoc.{buffer_none}
use Rattle.j8_lines.proofs.Step.{standing, front_put, front_length, Roomy, held_open, fault_none, defined_none, defined_refused, stays, step}

-- the start
pub begun : (line out : List ℕ) → lent fresh line out ≡ j8_lines [] false line out
unfolding j8_lines left first_from cut count_lf records pick
begun line out = lent_path _ _ refl (sym (buffer_none 0 line)) refl

ok_fresh : (line out : List ℕ) → line_max ≤ length line → Ok line out (lent fresh line out)
ok_fresh line out h =
    record { held = omega arith; taken = omega arith; lfs = omega arith; used = omega arith; room = refl; wide = refl; large = h }

-- a piece
steps : (t line out bs : List ℕ) → Ok line out (j8_lines t false line out) → feed_bytes (j8_lines t false line out) bs ≡ j8_lines (t ++ bs) false line out
unfolding feed_bytes pick
steps t line out [] k = rw (append-nil t)
steps t line out (b ∷ bs) k =
    rw (step t line out b k, steps (t ++ (b ∷ [])) line out bs (rw (step t line out b k) at (ok_byte line out (j8_lines t false line out) k b)), append_assoc t (b ∷ []) bs)

-- the definition's state is fit, at any text
pub ok_defined : (t line out : List ℕ) → line_max ≤ length line → Ok line out (j8_lines t false line out)
ok_defined t line out h =
    let k : Ok line out (j8_lines [] false line out) = rw (begun line out) at (ok_fresh line out h) in
    rw (steps [] line out t k) at (ok_bytes line out (j8_lines [] false line out) t k)

-- a finish
pub empty_record : line_record [] ≡ []
unfolding line_record read_line read_stripped strip trimmed leads
empty_record = refl

module _ (t line out : List ℕ) (s : Roomy t line out) where
  closes : (r : List ℕ) → line_record (cut t).open_line ≡ r → closing (standing t none line out) r ≡ left t none true line out
  unfolding left
  closes r e =
      rw e
      (lent_path _ _
      (state_path _ _ refl refl refl (omega (arith, length-append (records (cut t).closed) r)) refl refl refl refl)
      refl
      (front_put (records (cut t).closed) r out s.room))

  end_fault_lem : end_fault (standing t none line out) ≡ pick (eqb (length (cut t).open_line) 0) none (line_fault (length out) (length (records (cut t).closed)) (cut t).open_line)
  unfolding left pick
  end_fault_lem = rw (held_open t line out 0 s, front_length (records (cut t).closed) out s.room)

  held_is : (standing t none line out).state.held ≡ length (cut t).open_line
  unfolding left pick
  held_is = refl

  refuses : (n : Refusal) (p : ℕ) → keeps_refusal (standing t none line out) n p ≡ standing t (refuse n p) line out
  unfolding left pick
  refuses n p = refl

  ends_open : (f : Fault) → eqb (length (cut t).open_line) 0 ≡ false → finish_by f (standing t none line out) ≡ end_by f t line out
  unfolding pick
  ends_open none q = rw (held_open t line out 0 s, held_is, q) (closes (line_record (cut t).open_line) refl)
  ends_open (refuse n p) q = refuses n p

  ends : (o : List ℕ) → (cut t).open_line ≡ o → finish_all (standing t none line out) ≡ end_by (open_fault (length out) (length (records (cut t).closed)) o) t line out
  unfolding finish_all pick
  ends [] e =
      let q : eqb (length (cut t).open_line) 0 ≡ true = rw e in
      rw (end_fault_lem, q, held_is, q) (closes [] (ap line_record e ∙ empty_record))
  ends (b ∷ bs) e =
      let q : eqb (length (cut t).open_line) 0 ≡ false = rw e (eqb-suc-zero (length bs)) in
      rw (end_fault_lem, q, e) (ends_open (line_fault (length out) (length (records (cut t).closed)) (b ∷ bs)) q)

-- the answers
answer_standing : (t : List ℕ) (f : Fault) (line out : List ℕ) → kept_answer (standing t f line out).state ≡ j8_answer (standing t f line out).state false
unfolding left j8_answer pick
answer_standing t none line out = refl
answer_standing t (refuse n p) line out = rw (numbered n)

-- What the definition says after the calls so far: the joined text, whether a finish came, and whether one came before the last call.
abbrev pub says : List ℕ → Bool → Bool → List ℕ → List ℕ → Called
says t fin e line out = record { lent = j8_lines t fin line out; answer = j8_answer (j8_lines t fin line out).state e }

stays_all : (t line out : List ℕ) (n : Refusal) (p : ℕ) (bs : List ℕ) → feed_bytes (standing t (refuse n p) line out) bs ≡ standing t (refuse n p) line out
unfolding feed_bytes pick
stays_all t line out n p [] = refl
stays_all t line out n p (b ∷ bs) = rw (stays t line out n p b) (stays_all t line out n p bs)

-- a call with nothing refused so far, and one after a refusal
guard_none : (t line out : List ℕ) (d : Lent) → fit_lent (standing t none line out) ≡ true → guarded (standing t none line out) d ≡ record { lent = d; answer = j8_answer d.state false }
unfolding left j8_answer answer_of stop_state pick
guard_none t line out d f = rw f

guard_refused : (t line out : List ℕ) (n : Refusal) (p : ℕ) (d : Lent) → fit_lent (standing t (refuse n p) line out) ≡ true → guarded (standing t (refuse n p) line out) d ≡ record { lent = standing t (refuse n p) line out; answer = kept_answer (standing t (refuse n p) line out).state }
unfolding left stop_state pick
guard_refused t line out n p d f = rw (f, numbered n)

module _ (t line out : List ℕ) (h : line_max ≤ length line) where
  feed_by : (piece : List ℕ) (f : Fault) → (first_fault (length out) t).why ≡ f → feed (j8_lines t false line out) piece ≡ says (t ++ piece) false false line out
  unfolding feed pick
  feed_by piece none e =
      let k = ok_defined t line out h in
      let q = defined_none t line out e in
      rw (steps t line out piece k, q, guard_none t line out (j8_lines (t ++ piece) false line out) (rw q at (ok_fit line out _ k)))
  feed_by piece (refuse n p) e =
      let k = ok_defined t line out h in
      let q = defined_refused t line out n p e in
      let T = take (first_fault (length out) t).before t in
      let same : j8_lines (t ++ piece) false line out ≡ standing T (refuse n p) line out =
      sym (steps t line out piece k) ∙ ap (λ m. feed_bytes m piece) q ∙ stays_all T line out n p piece in
      rw (steps t line out piece k, q, same, guard_refused T line out n p (standing T (refuse n p) line out) (rw q at (ok_fit line out _ k)), answer_standing T (refuse n p) line out)

  pub feed_call : (piece : List ℕ) → feed (j8_lines t false line out) piece ≡ says (t ++ piece) false false line out
  feed_call piece = feed_by piece (first_fault (length out) t).why refl

-- the definition with a finish
pub ended_none : (t line out : List ℕ) → (first_fault (length out) t).why ≡ none → j8_lines t true line out ≡ end_by (open_fault (length out) (length (records (cut t).closed)) (cut t).open_line) t line out
unfolding j8_lines pick
ended_none t line out e = rw (fault_none (length out) t e, take_all (length t) t (omega arith))

pub ended_refused : (t line out : List ℕ) (n : Refusal) (p : ℕ) → (first_fault (length out) t).why ≡ refuse n p → j8_lines t true line out ≡ standing (take (first_fault (length out) t).before t) (refuse n p) line out
unfolding j8_lines pick
ended_refused t line out n p e = rw e

-- After a finish: refused, or ended.
abbrev pub Settled : Lent → Type 0
Settled m = pick (eqb m.state.refusal 0) m.state.ended true ≡ true

settled_over : (t line out : List ℕ) → Settled (left t none true line out)
unfolding left pick
settled_over t line out = refl

settled_refused : (t line out : List ℕ) (n : Refusal) (p : ℕ) → Settled (standing t (refuse n p) line out)
unfolding left pick
settled_refused t line out n p = rw (numbered n)

end_by_lem : (t line out : List ℕ) (f : Fault) → Settled (end_by f t line out)
end_by_lem t line out none = settled_over t line out
end_by_lem t line out (refuse n p) = settled_refused t line out n p

settled_guard : (m d : Lent) → fit_lent m ≡ true → (k : Bool) → eqb m.state.refusal 0 ≡ k → pick k m.state.ended true ≡ true → guarded m d ≡ record { lent = m; answer = j8_answer m.state true }
unfolding j8_answer stop_state pick
settled_guard m d f true e s = rw (f, e, s)
settled_guard m d f false e s = rw (f, e)

module _ (t line out : List ℕ) (h : line_max ≤ length line) where
  ended_by : (f : Fault) → (first_fault (length out) t).why ≡ f → (finish (j8_lines t false line out) ≡ says t true false line out) × (Ok line out (j8_lines t true line out) × Settled (j8_lines t true line out))
  unfolding finish pick
  ended_by none e =
      let k = ok_defined t line out h in
      let q = defined_none t line out e in
      let k' : Ok line out (standing t none line out) = rw q at k in
      let s : Roomy t line out = record { room = unfold left in k'.used; short = unfold left in k'.held; large = k'.large } in
      let en = end_by_lem t line out (open_fault (length out) (length (records (cut t).closed)) (cut t).open_line) in
      let done : finish_all (standing t none line out) ≡ end_by (open_fault (length out) (length (records (cut t).closed)) (cut t).open_line) t line out = ends t line out s (cut t).open_line refl in (
        rw (q, ended_none t line out e, guard_none t line out (finish_all (standing t none line out)) (ok_fit line out _ k'), done),
        (rw (ended_none t line out e, ← done) (ok_finish line out (standing t none line out) k'), rw (ended_none t line out e) en),
      )
  ended_by (refuse n p) e =
      let k = ok_defined t line out h in
      let q = defined_refused t line out n p e in
      let r = ended_refused t line out n p e in
      let T = take (first_fault (length out) t).before t in
      let k' : Ok line out (standing T (refuse n p) line out) = rw q at k in
      let a = answer_standing T (refuse n p) line out in (
        rw (q, r, guard_refused T line out n p (finish_all (standing T (refuse n p) line out)) (ok_fit line out _ k'), a),
        (rw r k', rw r (settled_refused T line out n p)),
      )

  pub finish_call : finish (j8_lines t false line out) ≡ says t true false line out
  finish_call = (ended_by (first_fault (length out) t).why refl).0

  -- after a finish every call changes nothing
  after_guard : (d : Lent) → guarded (j8_lines t true line out) d ≡ says t true true line out
  after_guard d =
      let x = (ended_by (first_fault (length out) t).why refl).1 in
      settled_guard (j8_lines t true line out) d (ok_fit line out _ x.0) (eqb (j8_lines t true line out).state.refusal 0) refl x.1

  after_call : (c : Call) → call (j8_lines t true line out) c ≡ says t true true line out
  unfolding call feed finish pick
  after_call (feeds piece) = after_guard (feed_bytes (j8_lines t true line out) piece)
  after_call finishes = after_guard (finish_all (j8_lines t true line out))

  after_run : (cs : List Call) → run (says t true true line out) cs ≡ says t true true line out
  unfolding run pick
  after_run [] = refl
  after_run (c ∷ cs) = rw (after_call c) (after_run cs)

  end_run : (cs : List Call) → run (says t true false line out) cs ≡ says t true (earlier (finishes ∷ cs)) line out
  unfolding run earlier pick
  end_run [] = refl
  end_run (c ∷ cs) = rw (after_call c) (after_run cs)

earlier_feed : (piece : List ℕ) (cs : List Call) → earlier (feeds piece ∷ cs) ≡ earlier cs
unfolding earlier pick
earlier_feed piece [] = refl
earlier_feed piece (c ∷ cs) = refl

from : (t line out : List ℕ) → line_max ≤ length line → (cs : List Call) → run (says t false false line out) cs ≡ says (t ++ joined cs) (finished cs) (earlier cs) line out
unfolding run joined finished call pick
from t line out h [] = rw (append-nil t) (unfold earlier in refl)
from t line out h (feeds piece ∷ cs) =
    rw (feed_call t line out h piece, from (t ++ piece) line out h cs, append_assoc t piece (joined cs), earlier_feed piece cs)
from t line out h (finishes ∷ cs) = rw (finish_call t line out h, append-nil t) (end_run t line out h cs)

begun_answer : (line out : List ℕ) → zeros ≡ j8_answer (j8_lines [] false line out).state false
unfolding j8_lines j8_answer left first_from pick
begun_answer line out = refl

-- the whole list
pub whole_list : (cs : List Call) (line out : List ℕ) → line_max ≤ length line → run (began line out) cs ≡ defined cs line out
unfolding defined pick
whole_list cs line out h = rw (begun line out, begun_answer line out) (from [] line out h cs)
