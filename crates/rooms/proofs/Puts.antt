-- Parts of a text put one behind another: a part that doesn't fit leaves a place past the room, where nothing more is stored.
-- Assumes nothing.
use Prim.Native.Nat.{ℕ, ◌+◌, ◌-◌, ◌≤◌, ◌<◌}
use mathlib.Core.List.{List, [], ◌++◌}
use mathlib.Core.Path.{◌≡◌, refl, sym, ap, subst, ◌∙◌}
use native.Mathlib.Nat.{add-zero}
use native.Mathlib.Omega.{arith}
use borrow.Author.Tests.{le-leb, lt-leb, lt-ltb, le-ltb, leb-true, leb-false}
use lib.Dec.{leb}
use borrow.Rule.Slice.PartMut.{put_mid}
use lib.ListN.{length, take, drop, length-append, length-drop}
use lib.Seq.{sets, length-take-le, take_all, take-take, take-append-le, take-append-add}
use Rattle.std.specs.Prelude.{Option, Some, None}
use Rattle.prelude.proofs.Cases.{split, never}
use Rattle.prelude.proofs.Picks.{pick_true, pick_false}
use Rattle.prelude.proofs.Stores.{sets_append, sets_part}
use Rattle.prelude.specs.Pick.{pick}
use Rattle.strings_write.specs.Write.{write_string}
use Rattle.strings_write.specs.inner.Passes.{Passed}
use Rattle.rooms.specs.inner.Puts.{behind, Put}

-- the place behind a text that fits, behind one that doesn't, and where the place is past the room already
module _ (room o : ℕ) (text : List ℕ) where
  behind_fits : o + length text ≤ room → behind room o text ≡ o + length text
  unfolding behind
  behind_fits h = pick_true _ _ _ (le-leb _ _ h)

  behind_past : room < o → behind room o text ≡ o
  unfolding behind
  behind_past h = pick_false _ _ _ (lt-leb (o + length text) room (omega arith)) ∙ pick_true _ _ _ (lt-ltb _ _ h)

  behind_over : o ≤ room → room < o + length text → behind room o text ≡ room + 1
  unfolding behind
  behind_over h g = pick_false _ _ _ (lt-leb _ _ g) ∙ pick_false _ _ _ (le-ltb _ _ h)

-- nothing can be put past the room
pub put_past : {text : List ℕ} {room o : ℕ} {out : List ℕ} → room < o → Put text room o o out out
put_past {text} {room} {o} {out} h =
    let z : room - o ≡ 0 = omega arith in
    record { answer = sym (behind_past room o text h); stored = sym (ap (λ (n : ℕ). sets out o (take n text)) z) }

-- a part that doesn't fit
pub put_over : {text : List ℕ} {room o : ℕ} {out new : List ℕ} → o ≤ room → room < o + length text → new ≡ sets out o (take (room - o) text)
    → Put text room o (room + 1) out new
put_over {text} {room} {o} h g w = record { answer = sym (behind_over room o text h g); stored = w }

-- one that begins where the room ends
pub put_full : {text : List ℕ} {room o : ℕ} {out : List ℕ} → o ≡ room → 0 < length text → Put text room o (room + 1) out out
put_full {text} {room} {o} {out} e h =
    let z : room - o ≡ 0 = omega arith in
    put_over (omega arith) (omega arith) (sym (ap (λ (n : ℕ). sets out o (take n text)) z))

-- one that fits
pub put_done : {text : List ℕ} {room o r : ℕ} {out new : List ℕ} → o + length text ≤ room → r ≡ o + length text → new ≡ sets out o text
    → Put text room o r out new
put_done {text} {room} {o} {r} {out} h e w =
    record { answer = e ∙ sym (behind_fits room o text h); stored = w ∙ ap (sets out o) (sym (take_all (room - o) text (omega arith))) }

module _ {text : List ℕ} {room o r : ℕ} {out new : List ℕ} (w : Put text room o r out new) where
  pub fits : o + length text ≤ room → (r ≡ o + length text) × (new ≡ sets out o text)
  fits h = (w.answer ∙ behind_fits room o text h, w.stored ∙ ap (sets out o) (take_all (room - o) text (omega arith)))

  pub over : room < o + length text → room < r
  over h = split (leb o room)
      (λ e. let k : r ≡ room + 1 = w.answer ∙ behind_over room o text (leb-true _ _ e) h in omega arith)
      (λ e. let g : room < o = leb-false o room e in let k : r ≡ o = w.answer ∙ behind_past room o text g in omega arith)

pub put_none : {room o : ℕ} {out : List ℕ} → Put [] room o o out out
put_none {room} {o} {out} =
    split (leb o room)
    (λ e. let h : o ≤ room = leb-true _ _ e in put_done (omega arith) (sym (add-zero o)) refl)
    (λ e. put_past (leb-false o room e))

-- the same text
pub put_as : {text this : List ℕ} {room o r : ℕ} {out new : List ℕ} → this ≡ text → Put text room o r out new → Put this room o r out new
put_as {text} {this} {room} {o} {r} {out} {new} e w = subst (λ (x : List ℕ). Put x room o r out new) (sym e) w

-- one part behind another
module _ (room o : ℕ) (a b : List ℕ) where
  both : length (a ++ b) ≡ length a + length b
  both = length-append a b

  behind_then : o + length a ≤ room → behind room (o + length a) b ≡ behind room o (a ++ b)
  behind_then h = split (leb (o + length a + length b) room)
      (λ e. let g : o + length a + length b ≤ room = leb-true _ _ e in
      behind_fits room (o + length a) b g ∙ (let k : o + length a + length b ≡ o + length (a ++ b) = omega (arith, both) in k) ∙ sym (behind_fits room o (a ++ b) (omega (arith, both))))
      (λ e. let g : room < o + length a + length b = leb-false (o + length a + length b) room e in
      behind_over room (o + length a) b h g ∙ sym (behind_over room o (a ++ b) (omega arith) (omega (arith, both))))

  behind_still : room < o + length a → behind room o a ≡ behind room o (a ++ b)
  behind_still h = split (leb o room)
      (λ e. let g : o ≤ room = leb-true _ _ e in behind_over room o a g h ∙ sym (behind_over room o (a ++ b) g (omega (arith, both))))
      (λ e. let g : room < o = leb-false o room e in behind_past room o a g ∙ sym (behind_past room o (a ++ b) g))

pub put_then : {a b : List ℕ} {room o p r : ℕ} {out mid new : List ℕ} → Put a room o p out mid → Put b room p r mid new → Put (a ++ b) room o r out new
put_then {a} {b} {room} {o} {p} {r} {out} {mid} {new} x y =
    split (leb (o + length a) room)
    (λ e. let h : o + length a ≤ room = leb-true _ _ e in
    let u = fits x h in
    let n : room - o ≡ length a + (room - p) = omega (arith, u.0) in
    record {
      answer = y.answer ∙ ap (λ (k : ℕ). behind room k b) u.0 ∙ behind_then room o a b h;
      stored = y.stored ∙ ap (λ (z : List ℕ). sets z p (take (room - p) b)) u.1 ∙ sets_append a (take (room - p) b) out o p (sym u.0)
          ∙ ap (sets out o) (sym (ap (λ (k : ℕ). take k (a ++ b)) n ∙ take-append-add a b (room - p)));
    })
    (λ e. let h : room < o + length a = leb-false (o + length a) room e in
    let g : room < p = over x h in
    let z : room - p ≡ 0 = omega arith in
    record {
      answer = y.answer ∙ behind_past room p b g ∙ x.answer ∙ behind_still room o a b h;
      stored = y.stored ∙ ap (λ (k : ℕ). sets mid p (take k b)) z ∙ x.stored ∙ ap (sets out o) (sym (take-append-le (room - o) a b (omega arith)));
    })

-- n bytes of s from a place on
run_length : (s : List ℕ) (at n : ℕ) → at + n ≤ length s → length (take n (drop at s)) ≡ n
run_length s at n h = length-take-le n (drop at s) (omega (arith, length-drop at s))

module _ (s : List ℕ) (at n : ℕ) (h : at + n ≤ length s) {room o : ℕ} {out : List ℕ} where
  pub run_over : {new : List ℕ} → o ≤ room → room - o < n → new ≡ sets out o (take (room - o) (drop at s)) → Put (take n (drop at s)) room o (room + 1) out new
  run_over g f w =
      put_over g (omega (arith, run_length s at n h)) (w ∙ ap (sets out o) (sym (take-take (room - o) n (drop at s) (omega arith))))

  pub run_put : {new : List ℕ} → o ≤ room → n ≤ room - o → new ≡ sets out o (take n (drop at s)) → Put (take n (drop at s)) room o (o + n) out new
  run_put g f w = put_done (omega (arith, run_length s at n h)) (omega (arith, run_length s at n h)) w

-- a string, as one pass of its writer puts it into the part from o on, or nowhere where o is past the end
module _ (s out : List ℕ) (room o b : ℕ) (m : Option ℕ) (part : List ℕ) (h : o ≤ room) (f : o ≤ length out → b ≡ o) (g : length out ≤ o → b ≡ length out)
    (p : Passed (write_string s) (room - o) m (take (length out - b) (drop b out)) part) where
  string_stored : put_mid b (length out - b) out part ≡ sets out o (take (room - o) (write_string s))
  string_stored = ap (put_mid b (length out - b) out) p.stored ∙ sets_part out (take (room - o) (write_string s)) o b f g

  pub string_over : m ≡ None → Put (write_string s) room o (room + 1) out (put_mid b (length out - b) out part)
  unfolding pick
  string_over z =
      let k : room - o < length (write_string s) =
      split (leb (length (write_string s)) (room - o))
      (λ e. let q : ◌≡◌ {A = Option ℕ} None (Some (length (write_string s))) = sym z ∙ p.answer ∙ rw e in never (cc))
      (λ e. leb-false _ _ e) in
      put_over h (omega arith) string_stored

  module _ (n : ℕ) (i : m ≡ Some n) where
    string_fits : (length (write_string s) ≤ room - o) × (n ≡ length (write_string s))
    unfolding pick
    string_fits =
        split (leb (length (write_string s)) (room - o))
        (λ e. let q : ◌≡◌ {A = Option ℕ} (Some n) (Some (length (write_string s))) = sym i ∙ p.answer ∙ rw e in let k : n ≡ length (write_string s) = cc in (leb-true _ _ e, k))
        (λ e. let q : ◌≡◌ {A = Option ℕ} (Some n) None = sym i ∙ p.answer ∙ rw e in never (cc))

    pub string_inside : o + n ≤ room
    string_inside = omega (arith, string_fits.0, string_fits.1)

    pub string_put : Put (write_string s) room o (o + n) out (put_mid b (length out - b) out part)
    string_put = record {
      answer = ap (λ (k : ℕ). o + k) string_fits.1 ∙ sym (behind_fits room o (write_string s) (omega (arith, string_fits.0)));
      stored = string_stored;
    }
