-- What the line reader answers, way by way of the code, against the definition.
-- Assumes nothing.
use Prim.Native.Nat.{ℕ, ◌+◌, ◌-◌, ◌≤◌, ◌<◌}
use mathlib.Core.Bool.{Bool, true, false}
use mathlib.Core.List.{List, [], ◌∷◌, ◌++◌}
use mathlib.Core.Path.{◌≡◌, refl, sym, ap, ◌∙◌, subst}
use native.Mathlib.Omega.{arith}
use lib.Dec.{ltb}
use borrow.Author.Tests.{lt-ltb, le-ltb}
use lib.ListN.{length, take, drop, length-append, length-take}
use lib.Seq.{sets, take-length, take-append_seam}
use Rattle.prelude.specs.Limits.{line_max}
use Rattle.prelude.specs.Pick.{pick}
use Rattle.prelude.proofs.Cases.{split, never}
use Rattle.prelude.proofs.Stores.{sets_over}
use Rattle.utf8.specs.Utf8.{valid_utf8}
use Rattle.notation.specs.declared.styles.Style.{Style}
use Rattle.runs.specs.inner.Blocks.{Running}
use Rattle.std.specs.Prelude.{⊤, Option, Some, None, Result, Ok, Err}
use Rattle.prelude.specs.declared.refusals.Refused.{Refused}
use Rattle.prelude.specs.Refusals.{too_long, no_room, refused_at}
use Rattle.notation.specs.declared.marks.Mark.{Mark}
use Rattle.notation.specs.Marks.{opens, unopened, opening, opening_of}
use Rattle.strings.specs.Read.{StringRead, accepted, refused, fitted, decoded_of, read_into, read_string}
use Rattle.strings.specs.inner.Turns.{read_behind, Closed}
use Rattle.strings.proofs.Utf8Denoted.{Valid}
use Rattle.strings.proofs.WholeTexts.{mark_inside, literal_valid, marked as read-marked}
use Rattle.lines.specs.declared.read.Payload.{Payload}
use Rattle.lines.specs.Line.{LineRead, ignored, holds, faulty, bare, kind_of, from_string, from_bare, by_opening, read_stripped, shifted, leads, trimmed, read_line}
use Rattle.lines.specs.Answers.{fitted_line, read_line_text, payload_of, line_of, line_into}
use Rattle.lines.specs.inner.Told.{Told}
use Rattle.lines.proofs.LineEnds.{strip_part, strip_inside}
use Rattle.prelude.proofs.Numbers.{text_apart}
use Rattle.lines.proofs.Refusing.{LineFault, stripped_fault}

-- the kind of a payload
pub kind_valid : (s : List ℕ) (v : Bool) → v ≡ valid_utf8 s → v ≡ true → 1 ≡ kind_of s
unfolding kind_of pick
kind_valid s v e h = rw (sym e ∙ h)

pub kind_other : (s : List ℕ) (v : Bool) → v ≡ valid_utf8 s → v ≡ false → 2 ≡ kind_of s
unfolding kind_of pick
kind_other s v e h = rw (sym e ∙ h)

same_refused : {T : Type 0} {f g : Refused} → Path (Result T Refused) (Err f) (Err g) → f ≡ g
same_refused h = cc

-- a string v, read into out
module _ (out : List ℕ) where
  abbrev Got : StringRead → Result ℕ Refused → List ℕ → Type 0
  Got v r new = (r ≡ decoded_of (fitted (length out) v)) × (new ≡ read_into (fitted (length out) v) out)

  done : (v : StringRead) (r : Result ℕ Refused) (new : List ℕ) (n k : ℕ) → Got v r new → r ≡ Ok n → k ≡ kind_of (take n new)
      → Told (from_string v) (Ok (Some (payload_of k n))) out new
  unfolding pick
  done (accepted bs e) r new n k g h q =
      split (ltb (length out) (length bs))
      (λ b. let z : Err (refused_at no_room 0) ≡ Ok n = sym (g.0 ∙ rw b) ∙ h in never (cc))
      (λ b. let z : ◌≡◌ {A = Result ℕ Refused} (Ok (length bs)) (Ok n) = sym (g.0 ∙ rw b) ∙ h in
      let l : n ≡ length bs = cc in
      let w : new ≡ bs ++ drop (length bs) out = g.1 ∙ rw b in
      let t : take n new ≡ bs = (λ i. take (l i) (w i)) ∙ take-append_seam bs (drop (length bs) out) in
      record { answer = rw b (λ i. Ok (Some (payload_of ((q ∙ ap kind_of t) i) (l i)))); stored = rw b w })
  done (refused refusal at) r new n k g h q = let z : Err (refused_at refusal at) ≡ Ok n = sym g.0 ∙ h in never (cc)

  within : (v : StringRead) (r : Result ℕ Refused) (new : List ℕ) (n : ℕ) → Got v r new → r ≡ Ok n → n ≤ length new
  unfolding pick
  within (accepted bs e) r new n g h =
      split (ltb (length out) (length bs))
      (λ b. let z : Err (refused_at no_room 0) ≡ Ok n = sym (g.0 ∙ rw b) ∙ h in never (cc))
      (λ b. let z : ◌≡◌ {A = Result ℕ Refused} (Ok (length bs)) (Ok n) = sym (g.0 ∙ rw b) ∙ h in
      let l : n ≡ length bs = cc in
      let w : new ≡ bs ++ drop (length bs) out = g.1 ∙ rw b in
      omega (arith, ap length w ∙ length-append bs (drop (length bs) out)))
  within (refused refusal at) r new n g h = let z : Err (refused_at refusal at) ≡ Ok n = sym g.0 ∙ h in never (cc)

  -- the kind of a string that is valid
  valid_kind : (v : StringRead) (r : Result ℕ Refused) (new : List ℕ) (n : ℕ) → Valid v → Got v r new → r ≡ Ok n → 1 ≡ kind_of (take n new)
  unfolding pick
  valid_kind (accepted bs e) r new n u g h =
      split (ltb (length out) (length bs))
      (λ b. let z : Err (refused_at no_room 0) ≡ Ok n = sym (g.0 ∙ rw b) ∙ h in never (cc))
      (λ b. let z : ◌≡◌ {A = Result ℕ Refused} (Ok (length bs)) (Ok n) = sym (g.0 ∙ rw b) ∙ h in
      let l : n ≡ length bs = cc in
      let w : new ≡ bs ++ drop (length bs) out = g.1 ∙ rw b in
      let t : take n new ≡ bs = (λ i. take (l i) (w i)) ∙ take-append_seam bs (drop (length bs) out) in
      kind_valid bs true (sym u) refl ∙ ap kind_of (sym t))
  valid_kind (refused refusal at) r new n u g h = let z : Err (refused_at refusal at) ≡ Ok n = sym g.0 ∙ h in never (cc)

  undone : (v : StringRead) (r : Result ℕ Refused) (new : List ℕ) (f : Refused) → Got v r new → r ≡ Err f → Told (from_string v) (Err f) out new
  unfolding pick
  undone (accepted bs e) r new f g h =
      split (ltb (length out) (length bs))
      (λ b. let z : ◌≡◌ {A = Result ℕ Refused} (Err (refused_at no_room 0)) (Err f) = sym (g.0 ∙ rw b) ∙ h in
      let a : refused_at no_room 0 ≡ f = cc in
      record { answer = rw b (ap Err (sym a)); stored = rw b (g.1 ∙ rw b) })
      (λ b. let z : Ok (length bs) ≡ Err f = sym (g.0 ∙ rw b) ∙ h in never (cc))
  undone (refused refusal at) r new f g h =
      let z : ◌≡◌ {A = Result ℕ Refused} (Err (refused_at refusal at)) (Err f) = sym g.0 ∙ h in
      let a : refused_at refusal at ≡ f = cc in
      record { answer = ap Err (sym a); stored = g.1 }

-- a line with a mark, read behind it
module _ (s : List ℕ) (st : Style) (from : ℕ) (i : opens st from ≡ opening s) where
  abbrev m : Mark
  m = record { style = st; len = from }

  pub mark_fits : from ≤ length s
  mark_fits = mark_inside s (Some m) i m refl

  module _ (out new : List ℕ) (r : Result ℕ Refused) (g : (r ≡ decoded_of (read_behind st from (length out) s)) × (new ≡ read_into (read_behind st from (length out) s) out)) where
    got : Got out (read_string s) r new
    got = read-marked s (Some m) i m refl out g

    pub quoted_holds : (n k : ℕ) → r ≡ Ok n → k ≡ kind_of (take n new) → Told (from_string (read_string s)) (Ok (Some (payload_of k n))) out new
    quoted_holds n k h q = done out (read_string s) r new n k got h q

    pub literal_holds : (e n : ℕ) → Running st s from e → Closed st s e → r ≡ Ok n → Told (from_string (read_string s)) (Ok (Some (payload_of 1 n))) out new
    literal_holds e n k d h =
        done out (read_string s) r new n 1 got h (valid_kind out (read_string s) r new n (literal_valid s (Some m) i m refl e k d) got h)

    pub quoted_inside : (n : ℕ) → r ≡ Ok n → n ≤ length new
    quoted_inside n h = within out (read_string s) r new n got h

    pub quoted_faulty : (f : Refused) → r ≡ Err f → Told (from_string (read_string s)) (Err f) out new
    quoted_faulty f h = undone out (read_string s) r new f got h

-- a bare line
module _ (s out : List ℕ) (r : Result ⊤ Refused) (e : r ≡ bare s) where
  pub bare_tight : r ≡ Ok tt → length out < length s → Told (from_bare s (bare s)) (Err (refused_at no_room 0)) out out
  unfolding pick
  bare_tight h l = rw (sym e ∙ h) (record { answer = rw (lt-ltb (length out) (length s) l); stored = rw (lt-ltb (length out) (length s) l) })

  pub bare_holds : (new : List ℕ) → r ≡ Ok tt → length s ≤ length out → new ≡ sets out 0 (take (length s) (drop 0 s))
      → Told (from_bare s (bare s)) (Ok (Some (payload_of 1 (length s)))) out new
  unfolding pick
  bare_holds new h l w =
      let v : new ≡ s ++ drop (length s) out = w ∙ ap (sets out 0) (take-length s) ∙ sets_over s out l in
      rw (sym e ∙ h) (record { answer = rw (le-ltb (length out) (length s) l); stored = rw (le-ltb (length out) (length s) l) v })

  pub bare_faulty : (f : Refused) → r ≡ Err f → Told (from_bare s (bare s)) (Err f) out out
  bare_faulty f h = rw (sym e ∙ h) (record { answer = refl; stored = refl })

-- by the mark
stripped_is : (s : List ℕ) → 0 < length s → read_stripped s ≡ by_opening s (opening s)
unfolding read_stripped
stripped_is [] h = absurd (omega arith)
stripped_is (x ∷ r) h = refl

module _ (s : List ℕ) (m : Option Mark) (e : opening_of m ≡ opening s) where
  pub mark_stands : (mark : Mark) → m ≡ Some mark → opens mark.style mark.len ≡ opening s
  mark_stands mark q = sym (ap opening_of q) ∙ e

module _ (s out new : List ℕ) (r : Result (Option Payload) Refused) (h : 0 < length s) (m : Option Mark) (e : opening_of m ≡ opening s) where
  pub marked : (mark : Mark) → m ≡ Some mark → Told (from_string (read_string s)) r out new → Told (read_stripped s) r out new
  marked mark q t =
      let o : opening s ≡ opens mark.style mark.len = sym e ∙ ap opening_of q in
      subst (λ (v : LineRead). Told v r out new) (sym (stripped_is s h ∙ ap (by_opening s) o)) t

  pub unmarked : m ≡ None → Told (from_bare s (bare s)) r out new → Told (read_stripped s) r out new
  unmarked q t =
      let o : opening s ≡ unopened = sym e ∙ ap opening_of q in
      subst (λ (v : LineRead). Told v r out new) (sym (stripped_is s h ∙ ap (by_opening s) o)) t

-- a stripped line v, read into out; a blanks stand before it
module _ (a m : ℕ) (out new : List ℕ) where
  as_read : (v : LineRead) (r : Result (Option Payload) Refused) (q : Option Payload) → Told v r out new → r ≡ Ok q → Told (shifted a v) (Ok q) out new
  as_read ignored r q t e = record { answer = sym e ∙ t.answer; stored = t.stored }
  as_read (holds k bs) r q t e = record { answer = sym e ∙ t.answer; stored = t.stored }
  as_read (faulty j p) r q t e = let z : Err (refused_at j p) ≡ Ok q = sym t.answer ∙ e in never (cc)

  as_full : (v : LineRead) (r : Result (Option Payload) Refused) (f : Refused) → LineFault m v → Told v r out new → r ≡ Err f → f.refusal ≡ no_room
      → Told (shifted a v) (Err (refused_at no_room 0)) out new
  unfolding pick
  as_full ignored r f l t e h = let z : Ok None ≡ Err f = sym t.answer ∙ e in never (cc)
  as_full (holds k bs) r f l t e h =
      split (ltb (length out) (length bs))
      (λ b. record { answer = rw b; stored = t.stored })
      (λ b. let z : Ok (Some (payload_of k (length bs))) ≡ Err f = sym (t.answer ∙ rw b) ∙ e in never (cc))
  as_full (faulty j q) r f l t e h =
      let y : refused_at j q ≡ f = same_refused (sym t.answer ∙ e) in
      absurd (text_apart j l.0 (ap (λ (x : Refused). x.refusal) y ∙ h))

  as_faulty : (v : LineRead) (r : Result (Option Payload) Refused) (f : Refused) → LineFault m v → Told v r out new → r ≡ Err f → (f.refusal ≡ no_room → ⊥)
      → Told (shifted a v) (Err (refused_at f.refusal (a + f.place))) out new × (f.place ≤ m)
  unfolding pick
  as_faulty ignored r f l t e h = let z : Ok None ≡ Err f = sym t.answer ∙ e in never (cc)
  as_faulty (holds k bs) r f l t e h =
      split (ltb (length out) (length bs))
      (λ b. let y : refused_at no_room 0 ≡ f = same_refused (sym (t.answer ∙ rw b) ∙ e) in absurd (h (sym (ap (λ (x : Refused). x.refusal) y))))
      (λ b. let z : Ok (Some (payload_of k (length bs))) ≡ Err f = sym (t.answer ∙ rw b) ∙ e in never (cc))
  as_faulty (faulty j q) r f l t e h =
      let y : refused_at j q ≡ f = same_refused (sym t.answer ∙ e) in (
        record { answer = ap (λ (x : Refused). Err (refused_at x.refusal (a + x.place))) (sym y); stored = t.stored },
        omega (arith, l.1, ap (λ (x : Refused). x.place) y),
      )

-- the two equations of `Told`, which a call's contract has one by one
abbrev Parts : LineRead → Result (Option Payload) Refused → List ℕ → List ℕ → Type 0
Parts v r out new = (r ≡ line_of (fitted_line (length out) v)) × (new ≡ line_into (fitted_line (length out) v) out)

parts : (v : LineRead) (r : Result (Option Payload) Refused) (out new : List ℕ) → Told v r out new → Parts v r out new
parts v r out new t = (t.answer, t.stored)

abbrev LineTold : List ℕ → Result (Option Payload) Refused → List ℕ → List ℕ → Type 0
LineTold l r out new = Parts (read_line l) r out new

-- a whole line: a blanks stand first, and n bytes are left
module _ (l out : List ℕ) (a n : ℕ) (ea : a ≡ leads l) (en : n ≡ length (trimmed (take (length l - a) (drop a l)))) where
  abbrev part : List ℕ
  part = take (a + n - a) (drop a l)

  line_is : read_line l ≡ shifted a (read_stripped part)
  unfolding read_line
  line_is = λ i. shifted (sym ea i) (read_stripped (sym (strip_part l a n ea en) i))

  part_length : length part ≤ n
  part_length = omega (arith, length-take (a + n - a) (drop a l))

  pub nothing_left : n ≡ 0 → LineTold l (Ok None) out out
  unfolding read_stripped
  nothing_left z =
      let p : part ≡ [] = ap (λ (k : ℕ). take k (drop a l)) (let q : a + n - a ≡ 0 = omega arith in q) in
      let t = subst (λ (v : LineRead). Told v (Ok None) out out) (sym (line_is ∙ ap (λ (s : List ℕ). shifted a (read_stripped s)) p)) (record { answer = refl; stored = refl }) in
      parts (read_line l) (Ok None) out out t

  module _ (new : List ℕ) (r : Result (Option Payload) Refused) (t : Told (read_stripped part) r out new) where
    pub line_held : (q : Option Payload) → r ≡ Ok q → LineTold l (Ok q) out new
    line_held q e = rw line_is (parts _ _ _ _ (as_read a n out new (read_stripped part) r q t e))

    module _ (f : Refused) (e : r ≡ Err f) where
      pub line_full : f.refusal ≡ no_room → LineTold l (Err (refused_at no_room 0)) out new
      line_full z = rw line_is (parts _ _ _ _ (as_full a (length part) out new (read_stripped part) r f (stripped_fault part) t e z))

      pub line_faulty : (f.refusal ≡ no_room → ⊥) → LineTold l (Err (refused_at f.refusal (a + f.place))) out new
      line_faulty z = rw line_is (parts _ _ _ _ (as_faulty a (length part) out new (read_stripped part) r f (stripped_fault part) t e z).0)

      pub place_inside : (f.refusal ≡ no_room → ⊥) → a + f.place ≤ length l
      place_inside z =
          omega (arith, (as_faulty a (length part) out new (read_stripped part) r f (stripped_fault part) t e z).1, part_length, (strip_inside l a n ea en).1)

-- the cap
pub too_long_lem : (l out : List ℕ) → line_max < length l
    → (Err (refused_at too_long line_max) ≡ line_of (read_line_text (length out) l)) × (out ≡ line_into (read_line_text (length out) l) out)
unfolding read_line_text pick
too_long_lem l out h = rw (lt-ltb line_max (length l) h) (refl, refl)

pub short_enough : (l out new : List ℕ) (r : Result (Option Payload) Refused) → length l ≤ line_max
    → (r ≡ line_of (fitted_line (length out) (read_line l))) × (new ≡ line_into (fitted_line (length out) (read_line l)) out)
    → (r ≡ line_of (read_line_text (length out) l)) × (new ≡ line_into (read_line_text (length out) l) out)
unfolding read_line_text pick
short_enough l out new r h t = rw (le-ltb line_max (length l) h) t
