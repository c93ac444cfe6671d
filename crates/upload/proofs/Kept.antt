-- What the calls keep: counts within their limits, and the lengths of both buffers; byte by byte, and by a finish.
-- Assumes nothing.
use Prim.Native.Nat.{ℕ, ◌+◌, ◌≤◌}
use mathlib.Core.Bool.{Bool, true, false}
use mathlib.Core.List.{List, [], ◌∷◌, ◌++◌}
use mathlib.Core.Path.{◌≡◌, refl, ◌∙◌}
use native.Mathlib.Omega.{arith}
use borrow.Author.Tests.{leb-true, eqb-false, ne_eqb, le-leb}
use lib.Dec.{eqb}
use lib.ListN.{length, take, drop, length-append, length-take, length-drop, length-set}
use Rattle.prelude.specs.Bytes.{LF}
use Rattle.prelude.specs.Limits.{upload_max, line_max}
use Rattle.prelude.specs.Pick.{pick}
use Rattle.prelude.specs.declared.refusals.Refusal.{Refusal}
use Rattle.prelude.specs.Refusals.{too_long, number_of}
use Rattle.prelude.proofs.Numbers.{number_positive}
use Rattle.prelude.proofs.Cases.{never}
use Rattle.lines.specs.Line.{LineRead, ignored, holds, faulty, read_line}
use Rattle.records.specs.Records.{record_by, line_record, Fault, none, refuse, fault_by, line_fault, put_at}
use Rattle.upload.specs.declared.uploads.Upload.{Upload}
use Rattle.upload.specs.Calls.{Lent, keeps_refusal, stored, held_line, appended, closing, byte_fault, byte_by, feed_byte, feed_bytes, end_fault, finish_by, finish_all, fit_state, fit_lent}

-- equal by the parts
pub state_path : (x y : Upload) → x.taken ≡ y.taken → x.lfs ≡ y.lfs → x.held ≡ y.held → x.used ≡ y.used → x.ended ≡ y.ended → x.refusal ≡ y.refusal → x.line ≡ y.line → x.place ≡ y.place → x ≡ y
state_path x y p₁ p₂ p₃ p₄ p₅ p₆ p₇ p₈ =
    λ i. record { taken = p₁ i; lfs = p₂ i; held = p₃ i; used = p₄ i; ended = p₅ i; refusal = p₆ i; line = p₇ i; place = p₈ i }

pub lent_path : (x y : Lent) → x.state ≡ y.state → x.line ≡ y.line → x.out ≡ y.out → x ≡ y
lent_path x y p q r = λ i. record { state = p i; line = q i; out = r i }

-- a fault's parts
pick_none : (k : Bool) (n : Refusal) (p : ℕ) (f : Fault) → pick k (refuse n p) f ≡ none → (k ≡ false) × (f ≡ none)
unfolding pick
pick_none true n p f e = never (cc)
pick_none false n p f e = (refl, e)

room_none : (k : Bool) (n : Refusal) (p : ℕ) (f : Fault) → pick k f (refuse n p) ≡ none → k ≡ true
unfolding pick
room_none true n p f e = refl
room_none false n p f e = never (cc)

fits_by : (room used : ℕ) (r : LineRead) → used ≤ room → fault_by room used r ≡ none → used + length (record_by r) ≤ room
fits_by room used ignored h e = omega arith
fits_by room used (holds k p) h e = leb-true _ _ (room_none _ _ _ _ e)
fits_by room used (faulty n p) h e = never (cc)

pub line_fits : (room used : ℕ) (l : List ℕ) → used ≤ room → line_fault room used l ≡ none → used + length (line_record l) ≤ room
unfolding line_fault line_record pick
line_fits room used l h e = fits_by room used (read_line l) h e

-- a refusal's number is not 0
pub numbered : (r : Refusal) → eqb (number_of r) 0 ≡ false
numbered r = ne_eqb (number_of r) 0 (λ e. omega (arith, number_positive r))

-- what is kept, with both buffers as first lent
pub record Ok (line out : List ℕ) (m : Lent) : Type 0 where
  pub held : m.state.held ≤ line_max
  pub taken : m.state.taken ≤ upload_max
  pub lfs : m.state.lfs ≤ m.state.taken
  pub used : m.state.used ≤ length out
  pub room : length m.out ≡ length out
  pub wide : length m.line ≡ length line
  pub large : line_max ≤ length line

pub ok_fit : (line out : List ℕ) (m : Lent) → Ok line out m → fit_lent m ≡ true
unfolding fit_state pick
ok_fit line out m k =
    rw (le-leb line_max (length m.line) (omega (arith, k.wide, k.large)), le-leb m.state.held line_max k.held, le-leb m.state.taken upload_max k.taken, le-leb m.state.lfs m.state.taken k.lfs, le-leb m.state.used (length m.out) (omega (arith, k.used, k.room)))

module _ (line out : List ℕ) (m : Lent) (k : Ok line out m) where
  put_length : (r : List ℕ) → m.state.used + length r ≤ length out → length (put_at m.out m.state.used r) ≡ length out
  put_length r h =
      omega
      (arith, k.room, length-append (take m.state.used m.out) (r ++ drop (m.state.used + length r) m.out), length-append r (drop (m.state.used + length r) m.out), length-take m.state.used m.out, length-drop (m.state.used + length r) m.out)

  -- the held line's record, where it isn't refused
  record_fits : line_fault (length m.out) m.state.used (held_line m) ≡ none → m.state.used + length (line_record (held_line m)) ≤ length out
  record_fits f =
      omega (arith, line_fits (length m.out) m.state.used (held_line m) (omega (arith, k.used, k.room)) f, k.room)

  ok_refused : (n : Refusal) (p : ℕ) → Ok line out (keeps_refusal m n p)
  ok_refused n p =
      record { held = k.held; taken = k.taken; lfs = k.lfs; used = k.used; room = k.room; wide = k.wide; large = k.large }

  -- a byte
  ok_none : (b : ℕ) → byte_fault m b ≡ none → (t : Bool) → eqb b LF ≡ t → Ok line out (pick t (appended m (line_record (held_line m))) (stored m (b ∷ [])))
  unfolding pick
  ok_none b e true q =
      let a = pick_none (eqb m.state.taken upload_max) _ _ _ e in
      let ne : m.state.taken ≡ upload_max → ⊥ = eqb-false _ _ a.0 in
      let fits = record_fits (rw q at a.1) in
      record {
        held = omega arith;
        taken = omega (arith, k.taken, ne);
        lfs = omega (arith, k.lfs);
        used = fits;
        room = put_length (line_record (held_line m)) fits;
        wide = k.wide;
        large = k.large;
      }
  ok_none b e false q =
      let a = pick_none (eqb m.state.taken upload_max) _ _ _ e in
      let ne : m.state.taken ≡ upload_max → ⊥ = eqb-false _ _ a.0 in
      let f : pick (eqb m.state.held line_max) (refuse too_long line_max) none ≡ none = rw q at a.1 in
      let nh : m.state.held ≡ line_max → ⊥ = eqb-false _ _ (pick_none (eqb m.state.held line_max) too_long line_max none f).0 in
      record {
        held = omega (arith, k.held, nh);
        taken = omega (arith, k.taken, ne);
        lfs = omega (arith, k.lfs);
        used = k.used;
        room = k.room;
        wide = length-set m.line m.state.held b ∙ k.wide;
        large = k.large;
      }

  ok_by : (b : ℕ) (f : Fault) → byte_fault m b ≡ f → Ok line out (byte_by f m b)
  ok_by b none e = ok_none b e (eqb b LF) refl
  ok_by b (refuse n p) e = ok_refused n p

  ok_pick : (b : ℕ) (t : Bool) → Ok line out (pick t (byte_by (byte_fault m b) m b) m)
  unfolding pick
  ok_pick b true = ok_by b (byte_fault m b) refl
  ok_pick b false = k

  pub ok_byte : (b : ℕ) → Ok line out (feed_byte m b)
  unfolding feed_byte pick
  ok_byte b = ok_pick b (eqb m.state.refusal 0)

  -- a finish
  ok_closing : (r : List ℕ) → m.state.used + length r ≤ length out → Ok line out (closing m r)
  ok_closing r h =
      record {
        held = omega arith;
        taken = k.taken;
        lfs = k.lfs;
        used = h;
        room = put_length r h;
        wide = k.wide;
        large = k.large;
      }

  ok_finish_by : (z : Bool) (f : Fault) → pick z none (line_fault (length m.out) m.state.used (held_line m)) ≡ f → eqb m.state.held 0 ≡ z → Ok line out (finish_by f m)
  unfolding pick
  ok_finish_by true none e q = rw q (ok_closing [] (omega (arith, k.used)))
  ok_finish_by false none e q = rw q (ok_closing (line_record (held_line m)) (record_fits e))
  ok_finish_by z (refuse n p) e q = ok_refused n p

  pub ok_finish : Ok line out (finish_all m)
  unfolding finish_all pick
  ok_finish = ok_finish_by (eqb m.state.held 0) (end_fault m) refl refl

-- the bytes of a piece
pub ok_bytes : (line out : List ℕ) (m : Lent) (bs : List ℕ) → Ok line out m → Ok line out (feed_bytes m bs)
unfolding feed_bytes pick
ok_bytes line out m [] k = k
ok_bytes line out m (b ∷ bs) k = ok_bytes line out (feed_byte m b) bs (ok_byte line out m k b)
