-- What a whole text is refused with, by its string, the cap and the room; and that a unit hands on its character's fault.
-- Assumes nothing.
use Prim.Native.Nat.{ℕ, ◌≤◌, ◌<◌}
use mathlib.Core.List.{List, [], ◌∷◌}
use mathlib.Core.Logic.{inl, inr}
use mathlib.Core.Path.{◌≡◌, refl}
use native.Mathlib.Omega.{arith}
use lib.Dec.{ltb}
use lib.ListN.{length}
use borrow.Author.Tests.{ne_eqb, le-ltb}
use Rattle.prelude.specs.Bytes.{backslash}
use Rattle.prelude.specs.Limits.{text_max}
use Rattle.prelude.specs.Pick.{pick}
use Rattle.prelude.proofs.Picks.{pick_case}
use Rattle.std.specs.Prelude.{Some}
use Rattle.prelude.specs.declared.refusals.Refusal.{Refusal}
use Rattle.utf8.specs.Utf8.{char_len, char_fault}
use Rattle.utf8.proofs.Faults.{fault_told}
use Rattle.utf8.proofs.Characters.{high_start}
use Rattle.notation.specs.declared.styles.Style.{Style}
use Rattle.notation.specs.Styles.{quote}
use Rattle.notation.proofs.LiteralLaws.{quote_ascii}
use Rattle.units.specs.Units.{unit_at}
use Rattle.strings.specs.Read.{StringRead, accepted, refused, fitted, read_units, read_string, read_text}
use Rattle.strings.proofs.Numbers.{StringNumber, string_number}
use Rattle.string_claims.specs.Claims.{Numbered}

abbrev pub ReadNumbered : StringRead → Type 0
ReadNumbered (accepted bs e) = Unit
ReadNumbered (refused refusal at) = Numbered refusal

by_number_lem : (r : StringRead) → StringNumber r → ReadNumbered r
by_number_lem (accepted bs e) h = tt
by_number_lem (refused refusal at) (inl h) = inr (inl h)
by_number_lem (refused refusal at) (inr h) = inr (inr (inl h))

in_room : (room : ℕ) (r : StringRead) → ReadNumbered r → ReadNumbered (fitted room r)
in_room room (accepted bs e) h = pick_case ReadNumbered (ltb room (length bs)) _ _ (λ e. inr (inr (inr refl))) (λ e. tt)
in_room room (refused refusal at) h = h

pub text_numbered : (room : ℕ) (s : List ℕ) → ReadNumbered (read_text room s)
unfolding read_text
text_numbered room s =
    pick_case ReadNumbered (ltb text_max (length s)) _ _ (λ e. inl refl)
    (λ e. in_room room (read_string s) (by_number_lem (read_string s) (string_number s)))

pub passed_up : (st : Style) (p : ℕ) (s : List ℕ) → 0 < length s → char_len s ≡ 0
    → (fault : Refusal) × ((char_fault s ≡ Some fault) × (read_units st p 0 s ≡ refused fault p))
unfolding read_units unit_at pick
passed_up st p [] h e = absurd (omega arith)
passed_up st p (x ∷ r) h e =
    let l : 0x80 ≤ x = high_start x r e in
    let (fault, (q, b)) = fault_told (x ∷ r) e in
    (fault, (q, rw (ne_eqb x (quote st) (λ z. omega (arith, (quote_ascii st).1)), ne_eqb x backslash (λ z. omega arith), le-ltb x 32 (omega arith), e, q)))
