-- A line's refusal is that of a fault in a text, so not that of the room, and its place is in the line; a quoted line's by its string, and a
-- bare one's character by character.
-- Assumes nothing.
use Prim.Native.Nat.{ℕ, zero, suc, pred, ◌+◌, ◌≤◌}
use mathlib.Core.List.{List, [], ◌∷◌}
use mathlib.Core.Logic.{inl, inr}
use mathlib.Core.Path.{◌≡◌, refl, sym, subst}
use native.Mathlib.Omega.{arith}
use lib.Dec.{ltb, eqb, lit≤}
use lib.ListN.{length, drop, length-drop}
use Rattle.std.specs.Prelude.{⊤, Option, Some, None, Result, Ok, Err}
use Rattle.prelude.specs.declared.refusals.Refusal.{Refusal}
use Rattle.prelude.specs.declared.refusals.Refused.{Refused}
use Rattle.prelude.specs.Refusals.{TextFault}
use Rattle.prelude.proofs.Picks.{pick_case}
use Rattle.prelude.proofs.Suffix.{by_suffix}
use Rattle.utf8.specs.Utf8.{char_fault, char_len, refused_by, char_by, char_at}
use Rattle.utf8.proofs.Characters.{char_le}
use Rattle.utf8.proofs.Faults.{fault_told}
use Rattle.notation.specs.Marks.{Opening, opens, unopened, opening}
use Rattle.strings.specs.Read.{StringRead, accepted, refused, read_string}
use Rattle.strings.proofs.Numbers.{StringFault, string_fault}
use Rattle.strings.proofs.Places.{Inside, string_inside}
use Rattle.lines.specs.Line.{bad_char, bare_fault, unless, bare_from, bare, LineRead, ignored, holds, faulty, from_string, from_bare, by_opening, read_stripped, shifted, leads, strip, read_line}
use Rattle.lines.proofs.BareTexts.{bare_skip}

-- a bare text's, in m bytes
abbrev BareFault : ℕ → Result ⊤ Refused → Type 0
BareFault m (Ok u) = Unit
BareFault m (Err f) = TextFault f.refusal × (f.place ≤ m)

abbrev FromFault : List ℕ → Type 0
FromFault s = (p m : ℕ) → p + length s ≤ m → BareFault m (bare_from p 0 s)

bare_none : FromFault []
unfolding bare_from
bare_none p m h = tt

-- none, or a fault
abbrev Own : Option Refusal → Type 0
Own None = Unit
Own (Some fault) = TextFault fault

own_char : (s : List ℕ) → char_len s ≡ 0 → Own (bad_char (refused_by (char_fault s)))
own_char s e =
    let (fault, (q, b)) = fault_told s e in
    subst (λ (f : Option Refusal). Own (bad_char (refused_by f))) (sym q) (inr (inr (inr b)))

-- a character's, as it stands bare
own_fault : (x : ℕ) (s : List ℕ) (n : ℕ) → char_len s ≡ n → Own (bare_fault x (char_by n s))
unfolding bare_fault
own_fault x s zero e =
    pick_case Own (ltb x 32) _ _ (λ l. pick_case Own (eqb x 9) _ _ (λ d. tt) (λ d. inr (inr (inl (lit≤ tt, lit≤ tt))))) (λ l. own_char s e)
own_fault x s (suc n) e =
    pick_case Own (ltb x 32) _ _ (λ l. pick_case Own (eqb x 9) _ _ (λ d. tt) (λ d. inr (inr (inl (lit≤ tt, lit≤ tt))))) (λ l. tt)

bare_one : (x : ℕ) (r : List ℕ) → ((k : ℕ) → FromFault (drop k r)) → FromFault (x ∷ r)
unfolding bare_from
bare_one x r ih p m h = go (bare_fault x (char_at (x ∷ r))) (own_fault x (x ∷ r) (char_len (x ∷ r)) refl)
  where
    go : (f : Option Refusal) → Own f → BareFault m (unless p f (bare_from (p + char_len (x ∷ r)) (pred (char_len (x ∷ r))) r))
    go None l =
        rw (bare_skip (p + char_len (x ∷ r)) (pred (char_len (x ∷ r))) r)
        (ih (pred (char_len (x ∷ r))) (p + char_len (x ∷ r)) m (omega (arith, char_le (x ∷ r), length-drop (pred (char_len (x ∷ r))) r)))
    go (Some fault) l = (l, omega arith)

bare_fault_lem : (s : List ℕ) → BareFault (length s) (bare s)
unfolding bare
bare_fault_lem s = by_suffix FromFault bare_none bare_one s 0 (length s) (omega arith)

-- a line's, in m bytes
abbrev pub LineFault : ℕ → LineRead → Type 0
LineFault m ignored = Unit
LineFault m (holds kind bs) = Unit
LineFault m (faulty refusal at) = TextFault refusal × (at ≤ m)

from_string_lem : (m : ℕ) (v : StringRead) → StringFault v → Inside 0 m v → LineFault m (from_string v)
from_string_lem m (accepted bs e) h i = tt
from_string_lem m (refused refusal at) h i = (h, i.0.1)

from_bare_lem : (m : ℕ) (s : List ℕ) (v : Result ⊤ Refused) → BareFault m v → LineFault m (from_bare s v)
from_bare_lem m s (Ok u) h = tt
from_bare_lem m s (Err f) h = h

by_opening_lem : (s : List ℕ) (o : Opening) → opening s ≡ o → LineFault (length s) (by_opening s o)
by_opening_lem s (opens st n) e = from_string_lem (length s) (read_string s) (string_fault st n s e) (string_inside s)
by_opening_lem s unopened e = from_bare_lem (length s) s (bare s) (bare_fault_lem s)

-- a stripped line is refused for a fault in it, at a place in it
pub stripped_fault : (s : List ℕ) → LineFault (length s) (read_stripped s)
unfolding read_stripped
stripped_fault [] = tt
stripped_fault (x ∷ r) = by_opening_lem (x ∷ r) (opening (x ∷ r)) refl

shifted_fault : (a m : ℕ) (v : LineRead) → LineFault m v → LineFault (a + m) (shifted a v)
shifted_fault a m ignored h = tt
shifted_fault a m (holds kind bs) h = tt
shifted_fault a m (faulty refusal at) h = (h.0, omega (arith, h.1))

-- a line is too, whatever stands at its ends
pub line_fault_lem : (l : List ℕ) → LineFault (leads l + length (strip l)) (read_line l)
unfolding read_line
line_fault_lem l = shifted_fault (leads l) (length (strip l)) (read_stripped (strip l)) (stripped_fault (strip l))
