-- A string's end and a refusal's place are inside the text, and refusal 4 stands at its end: unit by unit, as each fits into what is left.
-- Assumes nothing.
use Prim.Native.Nat.{ℕ, pred, ◌+◌, ◌≤◌, ◌<◌}
use Prim.Native.Char.{code}
use mathlib.Core.Bool.{true, ◌&&◌}
use mathlib.Core.List.{List, [], ◌∷◌}
use mathlib.Core.Path.{◌≡◌, refl, ap}
use native.Mathlib.Omega.{arith}
use lib.Dec.{ltb, eqb, lit<}
use lib.ListN.{length, drop, get_or, length-drop}
use borrow.Author.Tests.{eqb-true}
use Rattle.prelude.specs.Bytes.{double_quote, single_quote}
use Rattle.prelude.specs.Refusals.{number_of, cut_off}
use Rattle.prelude.proofs.Cases.{and_right}
use Rattle.prelude.proofs.Numbers.{unit_apart}
use Rattle.prelude.proofs.Picks.{pick_case}
use Rattle.prelude.proofs.Rest.{get_or_inside}
use Rattle.prelude.proofs.Suffix.{by_suffix}
use Rattle.notation.specs.declared.styles.Style.{Style}
use Rattle.notation.specs.Styles.{StringUnit, close, took, fault}
use Rattle.units.specs.Units.{unit_at}
use Rattle.units.proofs.Sizes.{took_size, unit_fault}
use Rattle.notation.specs.Marks.{Opening, opens, unopened, opening}
use Rattle.strings.specs.Read.{StringRead, accepted, refused, more, after, nothing_behind, fitted, read_units, read_from, read_token, read_string, read_text}
use Rattle.prelude.specs.Limits.{text_max}
use Rattle.strings.proofs.Steps.{read_skip}

-- from the place p on, in a text of m bytes
abbrev pub Inside : ℕ → ℕ → StringRead → Type 0
Inside p m (accepted bs e) = (p < e) × (e ≤ m)
Inside p m (refused refusal at) = ((p ≤ at) × (at ≤ m)) × (refusal ≡ cut_off → at ≡ m)

inside_more : (p q m : ℕ) (bs : List ℕ) (r : StringRead) → p ≤ q → Inside q m r → Inside p m (more bs r)
inside_more p q m bs (accepted cs e) h i = omega arith
inside_more p q m bs (refused refusal at) h i = (omega (arith, i.0), i.1)

abbrev UnitsInside : Style → List ℕ → Type 0
UnitsInside st s = (p m : ℕ) → m ≡ p + length s → Inside p m (read_units st p 0 s)

inside_none : (st : Style) → UnitsInside st []
unfolding read_units
inside_none st p m h = (omega arith, λ e. omega arith)

inside_one : (st : Style) (x : ℕ) (r : List ℕ) → ((k : ℕ) → UnitsInside st (drop k r)) → UnitsInside st (x ∷ r)
unfolding read_units
inside_one st x r ih p m h = go (unit_at st (x ∷ r)) refl
  where
    go : (u : StringUnit) → unit_at st (x ∷ r) ≡ u → Inside p m (after p u (λ q k. read_units st q k r))
    go close e = (omega arith, omega arith)
    go (took n bs) e =
        let (a, b) = took_size st (x ∷ r) n bs e in
        rw (read_skip st (p + n) (pred n) r)
        (inside_more p (p + n) m bs (read_units st (p + n) 0 (drop (pred n) r)) (omega arith)
        (ih (pred n) (p + n) m (omega (arith, length-drop (pred n) r))))
    go (fault refusal) e = (omega arith, λ q. absurd (unit_apart refusal (unit_fault st x r refusal e) q))

pub units_inside : (st : Style) (s : List ℕ) (p m : ℕ) → m ≡ p + length s → Inside p m (read_units st p 0 s)
units_inside st = by_suffix (UnitsInside st) (inside_none st) (inside_one st)

-- an opening mark stands in the text
abbrev pub Marked : List ℕ → Opening → Type 0
Marked s (opens st n) = (0 < n) × (n ≤ length s)
Marked s unopened = Unit

stands : (s : List ℕ) (n v : ℕ) → 0 < v → eqb (get_or s n 0) v ≡ true → n < length s
stands s n v h e = get_or_inside s n (λ z. omega (arith, eqb-true (get_or s n 0) v e))

pub opening_fits : (s : List ℕ) → Marked s (opening s)
unfolding opening
opening_fits s =
    pick_case (Marked s) (eqb (get_or s 0 0) double_quote) _ _ (λ e. (lit< tt, stands s 0 double_quote (lit< tt) e))
    (λ e. pick_case (Marked s) (eqb (get_or s 0 0) single_quote) _ _ (λ d. (lit< tt, stands s 0 single_quote (lit< tt) d))
    (λ d. pick_case (Marked s) (eqb (get_or s 0 0) (code "u") && eqb (get_or s 1 0) single_quote) _ _
    (λ c. (lit< tt, stands s 1 single_quote (lit< tt) (and_right (eqb (get_or s 0 0) (code "u")) _ c)))
    (λ c. pick_case (Marked s) (eqb (get_or s 0 0) (code "b") && eqb (get_or s 1 0) single_quote) _ _
    (λ b. (lit< tt, stands s 1 single_quote (lit< tt) (and_right (eqb (get_or s 0 0) (code "b")) _ b)))
    (λ b. tt))))

from_inside : (s : List ℕ) (o : Opening) → Marked s o → Inside 0 (length s) (read_from o s)
from_inside s (opens st n) h =
    rw (read_skip st n n s)
    (weaken (read_units st n 0 (drop n s)) (units_inside st (drop n s) n (length s) (omega (arith, length-drop n s))))
  where
    weaken : (r : StringRead) → Inside n (length s) r → Inside 0 (length s) r
    weaken (accepted bs e) i = omega arith
    weaken (refused refusal at) i = (omega (arith, i.0), i.1)
from_inside s unopened h = (omega arith, λ e. absurd (omega (arith, ap number_of e)))

pub token_inside : (s : List ℕ) → Inside 0 (length s) (read_token s)
unfolding read_token
token_inside s = from_inside s (opening s) (opening_fits s)

whole_inside : (m : ℕ) (r : StringRead) → Inside 0 m r → Inside 0 m (nothing_behind m r)
whole_inside m (accepted bs e) h = pick_case (Inside 0 m) (eqb e m) _ _ (λ q. h) (λ q. (omega arith, λ z. absurd (omega (arith, ap number_of z))))
whole_inside m (refused refusal at) h = h

pub string_inside : (s : List ℕ) → Inside 0 (length s) (read_string s)
unfolding read_string
string_inside s = whole_inside (length s) (read_token s) (token_inside s)

fitted_inside : (room m : ℕ) (r : StringRead) → Inside 0 m r → Inside 0 m (fitted room r)
fitted_inside room m (accepted bs e) h = pick_case (Inside 0 m) (ltb room (length bs)) _ _ (λ q. (omega arith, λ z. absurd (omega (arith, ap number_of z)))) (λ q. h)
fitted_inside room m (refused refusal at) h = h

pub text_inside : (room : ℕ) (s : List ℕ) → Inside 0 (length s) (read_text room s)
unfolding read_text
text_inside room s =
    pick_case (Inside 0 (length s)) (ltb text_max (length s)) _ _ (λ q. (omega arith, λ z. absurd (omega (arith, ap number_of z))))
    (λ q. fitted_inside room (length s) (read_string s) (string_inside s))
