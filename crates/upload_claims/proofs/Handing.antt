-- Records handed on: each byte and each call keep two uploads alike, or one of them refuses with 12 and stays so.
-- Assumes nothing.
use Prim.Native.Nat.{ℕ, ◌+◌, ◌≤◌}
use mathlib.Core.Bool.{Bool, true, false, ◌&&◌}
use mathlib.Core.List.{List, [], ◌∷◌, ◌++◌, append_assoc, append-nil}
use mathlib.Core.Path.{◌≡◌, refl, sym, ap, ap₂, subst, ◌∙◌}
use Rattle.std.specs.Prelude.{Option, Some, None}
use native.Mathlib.Omega.{arith}
use borrow.Author.Tests.{le-leb}
use lib.Dec.{leb, eqb}
use lib.ListN.{length, take, drop, set, length-append}
use lib.Seq.{take-append_seam, length-take-le}
use Rattle.prelude.specs.Bytes.{LF}
use Rattle.prelude.specs.Limits.{upload_max, line_max}
use Rattle.prelude.specs.Pick.{pick}
use Rattle.prelude.specs.declared.refusals.Refusal.{Refusal}
use Rattle.prelude.specs.Refusals.{unfit, no_room, too_long, over_limit, ended, number_of}
use Rattle.prelude.proofs.Cases.{split}
use Rattle.prelude.proofs.Picks.{pick_true, pick_false, pick_case}
use Rattle.lines.specs.Line.{LineRead, ignored, holds, faulty, read_line}
use Rattle.records.specs.Records.{record_of, line_record, Fault, none, refuse, fault_by, line_fault, put_at}
use Rattle.upload.specs.declared.uploads.Upload.{Upload}
use Rattle.upload.specs.declared.uploads.Answer.{Answer}
use Rattle.upload.specs.Calls.{Lent, lent, with_refusal, keeps_refusal, stored, behind_lf, at_end, held_line, appended, closing, byte_fault, byte_by, feed_byte, feed_bytes, end_fault, finish_by, finish_all, fit_state, Called, without_line, kept_answer, answer_of, stop_lent, stop_state, guarded_by, guarded, feed, finish}
use Rattle.j8_lines.specs.Lists.{Call, feeds, finishes, call, run, began}
use Rattle.upload_claims.specs.Claims.{emptied, records_in, Turn, calls, hands, turn, turns, handing, calls_of, Alike, HandingOnChangesNothing}

-- two uploads alike, each with its records inside its output
record Same (h : List ℕ) (d m : Lent) : Type 0 where
  pub state : emptied d.state ≡ emptied m.state
  pub line : d.line ≡ m.line
  pub records : h ++ records_in d ≡ records_in m
  pub one : d.state.used ≤ length d.out
  pub other : m.state.used ≤ length m.out

-- refused with 12, and so it stays
abbrev Short : Lent → Type 0
Short m = m.state.refusal ≡ number_of no_room

data Kept (h : List ℕ) (d m : Lent) : Type 0 where
  one_short : Short d → Kept h d m
  other_short : Short m → Kept h d m
  same : Same h d m → Kept h d m

-- two faults: the same, or one is 12
data Faults (f g : Fault) : Type 0 where
  one_full : f ≡ refuse no_room 0 → Faults f g
  other_full : g ≡ refuse no_room 0 → Faults f g
  alike : f ≡ g → Faults f g

line_faults : (a u b v : ℕ) (r : LineRead) → Faults (fault_by a u r) (fault_by b v r)
line_faults a u b v ignored = alike refl
line_faults a u b v (faulty n p) = alike refl
line_faults a u b v (holds k p) =
    split (leb (u + length (record_of k p)) a)
    (λ e. split (leb (v + length (record_of k p)) b)
    (λ f. alike (pick_true _ _ _ e ∙ sym (pick_true _ _ _ f)))
    (λ f. other_full (pick_false _ _ _ f)))
    (λ e. one_full (pick_false _ _ _ e))

-- faults behind the same test
choose : (t : Bool) (x : Fault) {f g : Fault} → Faults f g → Faults (pick t x f) (pick t x g)
unfolding pick
choose true x w = alike refl
choose false x w = w

choose_first : (t : Bool) (x : Fault) {f g : Fault} → Faults f g → Faults (pick t f x) (pick t g x)
unfolding pick
choose_first true x w = w
choose_first false x w = alike refl

-- records put behind others
put_records : (out : List ℕ) (used : ℕ) (r : List ℕ) → used ≤ length out → take (used + length r) (put_at out used r) ≡ take used out ++ r
put_records out used r h =
    let rest : List ℕ = drop (used + length r) out in
    let l : used + length r ≡ length (take used out ++ r) = omega (arith, length-append (take used out) r, length-take-le used out h) in
    ap (λ (n : ℕ). take n (take used out ++ (r ++ rest))) l
    ∙ ap (take (length (take used out ++ r))) (sym (append_assoc (take used out) r rest))
    ∙ take-append_seam (take used out ++ r) rest

put_inside : (out : List ℕ) (used : ℕ) (r : List ℕ) → used ≤ length out → used + length r ≤ length (put_at out used r)
put_inside out used r h =
    omega (arith, length-append (take used out) (r ++ drop (used + length r) out), length-append r (drop (used + length r) out), length-take-le used out h)

-- the fault of a byte, by what it goes by
abbrev fault_in : ℕ → ℕ → List ℕ → ℕ → ℕ → ℕ → Fault
fault_in taken held line room used b =
    pick (eqb taken upload_max) (refuse over_limit held)
    (pick (eqb b LF) (line_fault room used (take held line)) (pick (eqb held line_max) (refuse too_long line_max) none))

faults_in : (taken held : ℕ) (line : List ℕ) (x u y v b : ℕ) → Faults (fault_in taken held line x u b) (fault_in taken held line y v b)
unfolding line_fault
faults_in taken held line x u y v b =
    choose (eqb taken upload_max) (refuse over_limit held)
    (choose_first (eqb b LF) (pick (eqb held line_max) (refuse too_long line_max) none) (line_faults x u y v (read_line (take held line))))

kept_as : {h : List ℕ} {d e m n : Lent} → d ≡ e → m ≡ n → Kept h e n → Kept h d m
kept_as {h} {d} {e} {m} {n} p q k = subst (λ (z : Lent). Kept h z m) (sym p) (subst (λ (z : Lent). Kept h e z) (sym q) k)

module _ (h : List ℕ) (d m : Lent) (r : Same h d m) where
  taken_same : d.state.taken ≡ m.state.taken
  taken_same = ap (λ (s : Upload). s.taken) r.state

  held_same : d.state.held ≡ m.state.held
  held_same = ap (λ (s : Upload). s.held) r.state

  refusal_same : d.state.refusal ≡ m.state.refusal
  refusal_same = ap (λ (s : Upload). s.refusal) r.state

  line_same : held_line d ≡ held_line m
  line_same = ap₂ (λ (n : ℕ) (l : List ℕ). take n l) held_same r.line

  byte_faults : (b : ℕ) → Faults (byte_fault d b) (byte_fault m b)
  byte_faults b =
      rw (taken_same, held_same, r.line)
      (faults_in m.state.taken m.state.held m.line (length d.out) d.state.used (length m.out) m.state.used b)

  end_faults : Faults (end_fault d) (end_fault m)
  unfolding line_fault
  end_faults =
      rw (held_same, r.line)
      (choose (eqb m.state.held 0) none (line_faults (length d.out) d.state.used (length m.out) m.state.used (read_line (held_line m))))

  -- the records behind one more
  more : (x : List ℕ) → h ++ take (d.state.used + length x) (put_at d.out d.state.used x) ≡ take (m.state.used + length x) (put_at m.out m.state.used x)
  more x =
      ap (λ (z : List ℕ). h ++ z) (put_records d.out d.state.used x r.one)
      ∙ sym (append_assoc h (records_in d) x)
      ∙ ap (λ (z : List ℕ). z ++ x) r.records
      ∙ sym (put_records m.out m.state.used x r.other)

  appended_same : (x y : List ℕ) → x ≡ y → Same h (appended d x) (appended m y)
  appended_same x y e =
      record {
        state = ap (λ (s : Upload). emptied (behind_lf s 0)) r.state;
        line = r.line;
        records = more x ∙ ap (λ (z : List ℕ). take (m.state.used + length z) (put_at m.out m.state.used z)) e;
        one = put_inside d.out d.state.used x r.one;
        other = put_inside m.out m.state.used y r.other;
      }

  closing_same : (x y : List ℕ) → x ≡ y → Same h (closing d x) (closing m y)
  closing_same x y e =
      record {
        state = ap (λ (s : Upload). emptied (at_end s 0)) r.state;
        line = r.line;
        records = more x ∙ ap (λ (z : List ℕ). take (m.state.used + length z) (put_at m.out m.state.used z)) e;
        one = put_inside d.out d.state.used x r.one;
        other = put_inside m.out m.state.used y r.other;
      }

  stored_same : (b : ℕ) → Same h (stored d (b ∷ [])) (stored m (b ∷ []))
  stored_same b =
      record {
        state = ap (λ (s : Upload). emptied (stored (lent s [] []) (b ∷ [])).state) r.state;
        line = ap₂ (λ (l : List ℕ) (n : ℕ). set l n b) r.line held_same;
        records = r.records;
        one = r.one;
        other = r.other;
      }

  refused_same : (n : Refusal) (p : ℕ) → Same h (keeps_refusal d n p) (keeps_refusal m n p)
  refused_same n p =
      record {
        state = ap (λ (s : Upload). emptied (with_refusal s n p)) r.state;
        line = r.line;
        records = r.records;
        one = r.one;
        other = r.other;
      }

  by_fault : (b : ℕ) (f : Fault) → Kept h (byte_by f d b) (byte_by f m b)
  by_fault b (refuse n p) = same (refused_same n p)
  by_fault b none =
      split (eqb b LF)
      (λ e. kept_as (pick_true _ _ _ e) (pick_true _ _ _ e) (same (appended_same _ _ (ap line_record line_same))))
      (λ e. kept_as (pick_false _ _ _ e) (pick_false _ _ _ e) (same (stored_same b)))

  by_faults : (b : ℕ) {f g : Fault} → Faults f g → Kept h (byte_by f d b) (byte_by g m b)
  by_faults b (one_full e) = one_short (ap (λ (f : Fault). (byte_by f d b).state.refusal) e)
  by_faults b (other_full e) = other_short (ap (λ (f : Fault). (byte_by f m b).state.refusal) e)
  by_faults b {f} {g} (alike e) = subst (λ (z : Fault). Kept h (byte_by f d b) (byte_by z m b)) e (by_fault b f)

  kept_byte : (b : ℕ) → Kept h (feed_byte d b) (feed_byte m b)
  unfolding feed_byte
  kept_byte b =
      split (eqb m.state.refusal 0)
      (λ e. kept_as (pick_true _ _ _ (ap (λ (n : ℕ). eqb n 0) refusal_same ∙ e)) (pick_true _ _ _ e) (by_faults b (byte_faults b)))
      (λ e. kept_as (pick_false _ _ _ (ap (λ (n : ℕ). eqb n 0) refusal_same ∙ e)) (pick_false _ _ _ e) (same r))

  finish_by_lem : (f : Fault) → Kept h (finish_by f d) (finish_by f m)
  finish_by_lem none = same (closing_same _ _ (ap₂ (λ (n : ℕ) (l : List ℕ). pick (eqb n 0) [] (line_record l)) held_same line_same))
  finish_by_lem (refuse n p) = same (refused_same n p)

  finish_faults : {f g : Fault} → Faults f g → Kept h (finish_by f d) (finish_by g m)
  finish_faults (one_full e) = one_short (ap (λ (f : Fault). (finish_by f d).state.refusal) e)
  finish_faults (other_full e) = other_short (ap (λ (f : Fault). (finish_by f m).state.refusal) e)
  finish_faults {f} {g} (alike e) = subst (λ (z : Fault). Kept h (finish_by f d) (finish_by z m)) e (finish_by_lem f)

  kept_finish : Kept h (finish_all d) (finish_all m)
  unfolding finish_all
  kept_finish = finish_faults end_faults

-- a refusal stays under bytes
byte_stays : (m : Lent) (b : ℕ) → Short m → Short (feed_byte m b)
unfolding feed_byte
byte_stays m b e = ap (λ (z : Lent). z.state.refusal) (pick_false _ _ _ (ap (λ (n : ℕ). eqb n 0) e)) ∙ e

bytes_kept : (h : List ℕ) (d m : Lent) (bs : List ℕ) → Kept h d m → Kept h (feed_bytes d bs) (feed_bytes m bs)
unfolding feed_bytes
bytes_kept h d m [] k = k
bytes_kept h d m (b ∷ bs) (one_short e) = bytes_kept h (feed_byte d b) (feed_byte m b) bs (one_short (byte_stays d b e))
bytes_kept h d m (b ∷ bs) (other_short e) = bytes_kept h (feed_byte d b) (feed_byte m b) bs (other_short (byte_stays m b e))
bytes_kept h d m (b ∷ bs) (same r) = bytes_kept h (feed_byte d b) (feed_byte m b) bs (kept_byte h d m r b)

-- what stops a call, where the records lie inside the output
abbrev stopped : Upload → ℕ → Option Answer
stopped s line =
    pick (leb line_max line && (leb s.held line_max && (leb s.taken upload_max && (leb s.lfs s.taken && true))))
    (pick (eqb s.refusal 0) (pick s.ended (Some (without_line (number_of ended))) None) (Some (kept_answer s)))
    (Some (without_line (number_of unfit)))

-- a call is stopped alike
fit_same : (h : List ℕ) (d m : Lent) → Same h d m → stop_lent d ≡ stop_lent m
unfolding stop_state fit_state
fit_same h d m r =
    let u : leb d.state.used (length d.out) ≡ true = le-leb _ _ r.one in
    let v : leb m.state.used (length m.out) ≡ true = le-leb _ _ r.other in
    rw (u, v, r.line) (ap (λ (s : Upload). stopped s (length m.line)) r.state)

-- what a call leaves and answers: alike, or one of both refused with 12
data Going (h : List ℕ) (d m : Called) : Type 0 where
  one_stays : Short d.lent → Going h d m
  other_stays : Short m.lent → Going h d m
  both : Same h d.lent m.lent → d.answer ≡ m.answer → Going h d m

-- a call that goes on
done : Lent → Called
done m = record { lent = m; answer = answer_of m.state }

going_on : (h : List ℕ) (d m : Lent) → Kept h d m → Going h (done d) (done m)
unfolding done answer_of
going_on h d m (one_short e) = one_stays e
going_on h d m (other_short e) = other_stays e
going_on h d m (same r) = both r (ap answer_of r.state)

going_by : (a : Option Answer) (h : List ℕ) (d m x y : Lent) → Same h d m → Kept h x y → Going h (guarded_by a d x) (guarded_by a m y)
unfolding done
going_by (Some a) h d m x y r k = both r refl
going_by None h d m x y r k = going_on h x y k

going_guarded : (h : List ℕ) (d m x y : Lent) → Same h d m → Kept h x y → Going h (guarded d x) (guarded m y)
going_guarded h d m x y r k =
    subst (λ (a : Option Answer). Going h (guarded_by a d x) (guarded m y)) (sym (fit_same h d m r)) (going_by (stop_lent m) h d m x y r k)

-- 12 stays under a call
guarded_stays : (m x : Lent) → Short m → Short (guarded m x).lent
unfolding stop_state
guarded_stays m x e =
    pick_case (λ (a : Option Answer). Short (guarded_by a m x).lent) (fit_state m.state (length m.line) (length m.out)) _ _
    (λ t. subst (λ (a : Option Answer). Short (guarded_by a m x).lent) (sym (pick_false _ _ _ (ap (λ (n : ℕ). eqb n 0) e))) e)
    (λ t. e)

call_stays : (m : Lent) (c : Call) → Short m → Short (call m c).lent
unfolding call feed finish
call_stays m (feeds piece) e = guarded_stays m (feed_bytes m piece) e
call_stays m finishes e = guarded_stays m (finish_all m) e

going_call : (h : List ℕ) (d m : Lent) (c : Call) → Same h d m → Going h (call d c) (call m c)
unfolding call feed finish
going_call h d m (feeds piece) r = going_guarded h d m (feed_bytes d piece) (feed_bytes m piece) r (bytes_kept h d m piece (same r))
going_call h d m finishes r = going_guarded h d m (finish_all d) (finish_all m) r (kept_finish h d m r)

next : (h : List ℕ) (d m : Called) (c : Call) → Going h d m → Going h (call d.lent c) (call m.lent c)
next h d m c (one_stays e) = one_stays (call_stays d.lent c e)
next h d m c (other_stays e) = other_stays (call_stays m.lent c e)
next h d m c (both r a) = going_call h d.lent m.lent c r

-- records handed on
emptied_same : (h : List ℕ) (d m : Lent) → Same h d m → Same (h ++ records_in d) (lent (emptied d.state) d.line d.out) m
emptied_same h d m r =
    record {
      state = r.state;
      line = r.line;
      records = append-nil (h ++ records_in d) ∙ r.records;
      one = omega arith;
      other = r.other;
    }

going_turns : (ts : List Turn) (h : List ℕ) (d m : Called) → Going h d m
    → Going (turns (record { handed = h; last = d }) ts).handed (turns (record { handed = h; last = d }) ts).last (run m (calls_of ts))
unfolding turns turn run calls_of
going_turns [] h d m k = k
going_turns (calls c ∷ ts) h d m k = going_turns ts h (call d.lent c) (call m.lent c) (next h d m c k)
going_turns (hands ∷ ts) h d m (one_stays e) = going_turns ts (h ++ records_in d.lent) _ m (one_stays e)
going_turns (hands ∷ ts) h d m (other_stays e) = going_turns ts (h ++ records_in d.lent) _ m (other_stays e)
going_turns (hands ∷ ts) h d m (both r a) = going_turns ts (h ++ records_in d.lent) _ m (both (emptied_same h d.lent m.lent r) a)

ending : (h : List ℕ) (d m : Called) → (d.lent.state.refusal ≡ number_of no_room → ⊥) → (m.lent.state.refusal ≡ number_of no_room → ⊥) → Going h d m → Alike h d m
ending h d m f g (one_stays e) = absurd (f e)
ending h d m f g (other_stays e) = absurd (g e)
ending h d m f g (both r a) = record { state = r.state; line = r.line; records = r.records; answer = a }

pub handing_on : HandingOnChangesNothing
handing_on ts line small large f g =
    ending (handing line small ts).handed (handing line small ts).last (run (began line large) (calls_of ts)) f g
    (going_turns ts [] (began line small) (began line large) (both (record { state = refl; line = refl; records = refl; one = omega arith; other = omega arith }) refl))
