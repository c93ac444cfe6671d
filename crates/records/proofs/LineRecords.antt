-- A line's record in the output: the part behind the head holds the payload or is as it was, and the head goes before it.
-- Assumes nothing.
use Prim.Native.Nat.{ℕ, ◌+◌, ◌-◌, ◌≤◌, ◌<◌}
use mathlib.Core.List.{List, [], ◌∷◌, ◌++◌, append_assoc, append-nil}
use mathlib.Core.Path.{◌≡◌, refl, sym, ap, ◌∙◌}
use native.Mathlib.Nat.{add-zero}
use native.Mathlib.Omega.{arith}
use lib.Dec.{ltb}
use borrow.Author.Tests.{lt-ltb, le-ltb, ltb-true, ltb-false, le-leb, lt-leb}
use borrow.Rule.Slice.PartMut.{put_mid, put_same}
use lib.ListN.{length, take, drop, length-append, length-drop, drop_of_length-le, take-append-drop}
use lib.Seq.{sets, sets-eq, take_all, take-take, take-append-le, drop_at, drop-drop, length-take-le}
use Rattle.prelude.specs.Pick.{pick}
use Rattle.prelude.proofs.Cases.{split, never}
use Rattle.std.specs.Prelude.{Option, Some, None, Result, Ok, Err}
use Rattle.prelude.specs.declared.refusals.Refused.{Refused}
use Rattle.prelude.specs.Refusals.{no_room, refused_at}
use Rattle.lines.specs.declared.read.Payload.{Payload}
use Rattle.lines.specs.Line.{LineRead, ignored, holds, faulty, read_line}
use Rattle.lines.specs.Answers.{fitted_line, payload_of, line_of, line_into}
use Rattle.lines.specs.inner.Told.{Told}
use Rattle.records.specs.Records.{head, record_of, record_by, line_record, Fault, none, refuse, fault_by, line_fault, put_at, Appended, append_by, append_line}

-- the head before a payload that stands already
head_over : (out bs hd : List ℕ) (used from : ℕ) → used + length hd ≡ from → from + length bs ≤ length out
    → sets (take from out ++ (bs ++ drop (length bs) (drop from out))) used hd ≡ put_at out used (hd ++ bs)
head_over out bs hd used from e h =
    let X : List ℕ = bs ++ drop (length bs) (drop from out) in
    let W : List ℕ = take from out ++ X in
    let l : length (take from out) ≡ from = length-take-le from out (omega arith) in
    let w : length W ≡ length (take from out) + length X = length-append (take from out) X in
    let a : take used W ≡ take used out = take-append-le used (take from out) X (omega arith) ∙ take-take used from out (omega arith) in
    let b : drop (used + length hd) W ≡ X = drop_at (take from out) X (used + length hd) (omega arith) in
    let n : from + length bs ≡ used + length (hd ++ bs) = omega (arith, length-append hd bs) in
    let d : drop (length bs) (drop from out) ≡ drop (used + length (hd ++ bs)) out = drop-drop (length bs) from out ∙ ap (λ (k : ℕ). drop k out) n in
    sets-eq hd W used (omega arith)
    ∙ append_assoc (take used W) hd (drop (used + length hd) W)
    ∙ (λ i. a i ++ (hd ++ b i))
    ∙ ap (λ (x : List ℕ). take used out ++ x) (sym (append_assoc hd bs (drop (length bs) (drop from out))) ∙ ap (λ (x : List ℕ). (hd ++ bs) ++ x) d)

pub put_none : (out : List ℕ) (used : ℕ) → put_at out used [] ≡ out
put_none out used = rw (add-zero used) (take-append-drop used out)

-- what a line that reads as v adds, whatever the line
same_refused : {T : Type 0} {f g : Refused} → Path (Result T Refused) (Err f) (Err g) → f ≡ g
same_refused h = cc

same_payload : {p q : Payload} → Path (Result (Option Payload) Refused) (Ok (Some p)) (Ok (Some q)) → p ≡ q
same_payload h = cc

abbrev outcome : Fault → List ℕ → List ℕ → ℕ → Appended
outcome none r out used = record { added = Ok (length r); out = put_at out used r }
outcome (refuse refusal at) r out used = record { added = Err (refused_at refusal at); out = out }

outcome_is : (f : Fault) (l out : List ℕ) (used : ℕ) → append_by f l out used ≡ outcome f (line_record l) out used
outcome_is none l out used = refl
outcome_is (refuse refusal at) l out used = refl

abbrev added : LineRead → List ℕ → ℕ → Appended
added v out used = outcome (fault_by (length out) used v) (record_by v) out used

append_is : (l out : List ℕ) (used : ℕ) → append_line l out used ≡ added (read_line l) out used
unfolding append_line line_fault line_record
append_is l out used = outcome_is (fault_by (length out) used (read_line l)) l out used

-- the payload's part of the output, from `from` on
module _ (out : List ℕ) (used from : ℕ) (le : used ≤ length out) (ef : from ≡ pick (ltb (length out - used) 4) (length out) (used + 4)) where
  abbrev part : List ℕ
  part = take (length out - from) (drop from out)

  abbrev back : List ℕ → List ℕ
  back new = put_mid from (length out - from) out new

  short_from : length out - used < 4 → from ≡ length out
  unfolding pick
  short_from h = ef ∙ rw (lt-ltb (length out - used) 4 h)

  long_from : 4 ≤ length out - used → from ≡ used + 4
  unfolding pick
  long_from h = ef ∙ rw (le-ltb (length out - used) 4 h)

  pub from_inside : from ≤ length out
  from_inside =
      split (ltb (length out - used) 4)
      (λ b. omega (arith, short_from (ltb-true _ _ b)))
      (λ b. let h : 4 ≤ length out - used = ltb-false _ _ b in omega (arith, long_from h))

  part_is : part ≡ drop from out
  part_is = take_all (length out - from) (drop from out) (omega (arith, length-drop from out))

  part_length : length part ≡ length out - from
  part_length = ap length part_is ∙ length-drop from out

  back_is : (new : List ℕ) → back new ≡ take from out ++ new
  back_is new =
      ap (λ (x : List ℕ). take from out ++ (new ++ x)) (drop_of_length-le (drop from out) {i = length out - from} (omega (arith, length-drop from out)))
      ∙ ap (λ (x : List ℕ). take from out ++ x) (append-nil new)

  unchanged : (new : List ℕ) → new ≡ part → back new ≡ out
  unchanged new e = ap back e ∙ put_same from (length out - from) out

  -- a payload that its part is too short for has no room with its head
  tight : (k : ℕ) (bs : List ℕ) → length part < length bs → fault_by (length out) used (holds k bs) ≡ refuse no_room 0
  unfolding pick
  tight k bs h =
      let l : length out < used + length (record_of k bs) =
      split (ltb (length out - used) 4)
      (λ b. let q : length out - used < 4 = ltb-true _ _ b in omega arith)
      (λ b. let q : 4 ≤ length out - used = ltb-false _ _ b in omega (arith, long_from q, part_length)) in
      rw (lt-leb (used + length (record_of k bs)) (length out) l)

  short : (k : ℕ) (bs : List ℕ) → length out - used < 4 → fault_by (length out) used (holds k bs) ≡ refuse no_room 0
  unfolding pick
  short k bs h = rw (lt-leb (used + length (record_of k bs)) (length out) (omega arith))

  roomy : (k : ℕ) (bs : List ℕ) → 4 ≤ length out - used → length bs ≤ length part → fault_by (length out) used (holds k bs) ≡ none
  unfolding pick
  roomy k bs h g = rw (le-leb (used + length (record_of k bs)) (length out) (omega (arith, long_from h, part_length)))

  add_nothing : (v : LineRead) (r : Result (Option Payload) Refused) (new : List ℕ) → Told v r part new → r ≡ Ok None
      → record { added = Ok 0; out = back new } ≡ added v out used
  unfolding pick
  add_nothing ignored r new t e = λ i. record { added = Ok 0; out = (unchanged new t.stored ∙ sym (put_none out used)) i }
  add_nothing (holds k bs) r new t e =
      split (ltb (length part) (length bs))
      (λ b. let z : Err (refused_at no_room 0) ≡ Ok None = sym (t.answer ∙ rw b) ∙ e in never (cc))
      (λ b. let z : ◌≡◌ {A = Result (Option Payload) Refused} (Ok (Some (payload_of k (length bs)))) (Ok None) = sym (t.answer ∙ rw b) ∙ e in never (cc))
  add_nothing (faulty n p) r new t e = let z : Err (refused_at n p) ≡ Ok None = sym t.answer ∙ e in never (cc)

  add_fault : (v : LineRead) (r : Result (Option Payload) Refused) (new : List ℕ) (f : Refused) → Told v r part new → r ≡ Err f
      → record { added = Err f; out = back new } ≡ added v out used
  unfolding pick
  add_fault ignored r new f t e = let z : Ok None ≡ Err f = sym t.answer ∙ e in never (cc)
  add_fault (holds k bs) r new f t e =
      split (ltb (length part) (length bs))
      (λ b. let a : refused_at no_room 0 ≡ f = same_refused (sym (t.answer ∙ rw b) ∙ e) in
      (λ i. record { added = Err (sym a i); out = unchanged new (t.stored ∙ rw b) i })
      ∙ ap (λ (f : Fault). outcome f (record_of k bs) out used) (sym (tight k bs (ltb-true _ _ b))))
      (λ b. let z : Ok (Some (payload_of k (length bs))) ≡ Err f = sym (t.answer ∙ rw b) ∙ e in never (cc))
  add_fault (faulty m q) r new f t e =
      let a : refused_at m q ≡ f = same_refused (sym t.answer ∙ e) in
      λ i. record { added = Err (sym a i); out = unchanged new t.stored i }

  -- a payload that fits its part
  holds_is : (v : LineRead) (r : Result (Option Payload) Refused) (new : List ℕ) (k n : ℕ) → Told v r part new → r ≡ Ok (Some (payload_of k n))
      → (bs : List ℕ) × ((v ≡ holds k bs) × ((n ≡ length bs) × ((length bs ≤ length part) × (new ≡ bs ++ drop (length bs) part))))
  unfolding pick
  holds_is ignored r new k n t e = let z : ◌≡◌ {A = Result (Option Payload) Refused} (Ok None) (Ok (Some (payload_of k n))) = sym t.answer ∙ e in never (cc)
  holds_is (holds j bs) r new k n t e =
      split (ltb (length part) (length bs))
      (λ b. let z : Err (refused_at no_room 0) ≡ Ok (Some (payload_of k n)) = sym (t.answer ∙ rw b) ∙ e in never (cc))
      (λ b. let p : payload_of j (length bs) ≡ payload_of k n = same_payload (sym (t.answer ∙ rw b) ∙ e) in
      let a : j ≡ k = ap (λ (x : Payload). x.kind) p in let c : n ≡ length bs = sym (ap (λ (x : Payload). x.len) p) in
      (bs, (ap (λ (m : ℕ). holds m bs) a, (c, (ltb-false _ _ b, t.stored ∙ rw b)))))
  holds_is (faulty m q) r new k n t e = let z : Err (refused_at m q) ≡ Ok (Some (payload_of k n)) = sym t.answer ∙ e in never (cc)

  module _ (l new : List ℕ) (r : Result (Option Payload) Refused) (p : (r ≡ line_of (fitted_line (length part) (read_line l))) × (new ≡ line_into (fitted_line (length part) (read_line l)) part)) where
    t : Told (read_line l) r part new
    t = record { answer = p.0; stored = p.1 }

    pub nothing_added : r ≡ Ok None → record { added = Ok 0; out = back new } ≡ append_line l out used
    nothing_added e = add_nothing (read_line l) r new t e ∙ sym (append_is l out used)

    pub fault_added : (f : Refused) → r ≡ Err f → record { added = Err f; out = back new } ≡ append_line l out used
    fault_added f e = add_fault (read_line l) r new f t e ∙ sym (append_is l out used)

    module _ (k n : ℕ) (e : r ≡ Ok (Some (payload_of k n))) where
      pub no_head : length out - used < 4 → record { added = Err (refused_at no_room 0); out = back new } ≡ append_line l out used
      no_head h =
          let (bs, (ev, (en, (g, w)))) = holds_is (read_line l) r new k n t e in
          let z : length bs ≡ 0 = omega (arith, part_length, short_from h) in
          let q : new ≡ part = w ∙ empty bs part z in
          (λ i. record { added = Err (refused_at no_room 0); out = unchanged new q i })
          ∙ sym (append_is l out used ∙ ap (λ (v : LineRead). added v out used) ev
          ∙ ap (λ (f : Fault). outcome f (record_of k bs) out used) (short k bs h))
        where
          empty : (bs x : List ℕ) → length bs ≡ 0 → bs ++ drop (length bs) x ≡ x
          empty [] x z = refl
          empty (b ∷ bs) x z = absurd (let y : ⊥ = omega arith in y)

      pub holds_inside : n ≤ length out
      holds_inside =
          let (bs, (ev, (en, (g, w)))) = holds_is (read_line l) r new k n t e in omega (arith, part_length)

      pub record_added : (out2 : List ℕ) → 4 ≤ length out - used → out2 ≡ sets (back new) used (head n k)
          → record { added = Ok (4 + n); out = out2 } ≡ append_line l out used
      record_added out2 h w2 =
          let (bs, (ev, (en, (g, w)))) = holds_is (read_line l) r new k n t e in
          let f : from ≡ used + 4 = long_from h in
          let c : 4 + n ≡ length (record_of k bs) = omega arith in
          let o : out2 ≡ put_at out used (record_of k bs) =
          w2 ∙ (λ i. sets ((back_is new ∙ ap (λ (x : List ℕ). take from out ++ x) (w ∙ ap (λ (x : List ℕ). bs ++ drop (length bs) x) part_is)) i) used (head (en i) k))
          ∙ head_over out bs (head (length bs) k) used from (sym f) (omega (arith, part_length)) in
          (λ i. record { added = Ok (c i); out = o i })
          ∙ sym (append_is l out used ∙ ap (λ (v : LineRead). added v out used) ev
          ∙ ap (λ (x : Fault). outcome x (record_of k bs) out used) (roomy k bs h g))
