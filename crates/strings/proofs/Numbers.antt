-- A string's refusals: a unit's own, or that the text ends, or that it goes on behind the string; unit by unit.
-- Assumes nothing.
use Prim.Native.Nat.{ℕ, pred, ◌+◌}
use mathlib.Core.List.{List, [], ◌∷◌}
use mathlib.Core.Logic.{◌⊎◌, inl, inr}
use mathlib.Core.Path.{◌≡◌, refl}
use lib.Dec.{eqb}
use lib.ListN.{length, drop}
use Rattle.prelude.specs.Refusals.{no_opening, TextFault}
use Rattle.prelude.proofs.Picks.{pick_case}
use Rattle.prelude.proofs.Suffix.{by_suffix}
use Rattle.notation.specs.declared.styles.Style.{Style}
use Rattle.notation.specs.Styles.{StringUnit, close, took, fault}
use Rattle.notation.specs.Marks.{Opening, opens, unopened, opening}
use Rattle.units.specs.Units.{unit_at}
use Rattle.units.proofs.Sizes.{unit_fault}
use Rattle.strings.specs.Read.{StringRead, accepted, refused, more, after, nothing_behind, read_units, read_from, read_token, read_string}
use Rattle.strings.proofs.Steps.{read_skip}

abbrev pub StringFault : StringRead → Type 0
StringFault (accepted bs e) = Unit
StringFault (refused refusal at) = TextFault refusal

more_fault : (bs : List ℕ) (r : StringRead) → StringFault r → StringFault (more bs r)
more_fault bs (accepted cs e) h = h
more_fault bs (refused refusal at) h = h

abbrev UnitsFault : Style → List ℕ → Type 0
UnitsFault st s = (p : ℕ) → StringFault (read_units st p 0 s)

fault_none : (st : Style) → UnitsFault st []
unfolding read_units
fault_none st p = inl refl

fault_one : (st : Style) (x : ℕ) (r : List ℕ) → ((k : ℕ) → UnitsFault st (drop k r)) → UnitsFault st (x ∷ r)
unfolding read_units
fault_one st x r ih p = go (unit_at st (x ∷ r)) refl
  where
    go : (u : StringUnit) → unit_at st (x ∷ r) ≡ u → StringFault (after p u (λ q k. read_units st q k r))
    go close e = tt
    go (took n bs) e =
        rw (read_skip st (p + n) (pred n) r) (more_fault bs (read_units st (p + n) 0 (drop (pred n) r)) (ih (pred n) (p + n)))
    go (fault refusal) e = inr (inr (unit_fault st x r refusal e))

from_fault : (st : Style) (n : ℕ) (s : List ℕ) → StringFault (read_from (opens st n) s)
from_fault st n s = rw (read_skip st n n s) (by_suffix (UnitsFault st) (fault_none st) (fault_one st) (drop n s) n)

whole_fault : (m : ℕ) (r : StringRead) → StringFault r → StringFault (nothing_behind m r)
whole_fault m (accepted bs e) h = pick_case StringFault (eqb e m) _ _ (λ q. tt) (λ q. inr (inl refl))
whole_fault m (refused refusal at) h = h

-- where an opening mark stands: of a string in front of any text, and of a text
pub token_fault : (st : Style) (n : ℕ) (s : List ℕ) → opening s ≡ opens st n → StringFault (read_token s)
unfolding read_token
token_fault st n s e = rw e (from_fault st n s)

pub string_fault : (st : Style) (n : ℕ) (s : List ℕ) → opening s ≡ opens st n → StringFault (read_string s)
unfolding read_string
string_fault st n s e = whole_fault (length s) (read_token s) (token_fault st n s e)

-- of any text
abbrev pub StringNumber : StringRead → Type 0
StringNumber (accepted bs e) = Unit
StringNumber (refused refusal at) = (refusal ≡ no_opening) ⊎ TextFault refusal

opened_number : (r : StringRead) → StringFault r → StringNumber r
opened_number (accepted bs e) f = tt
opened_number (refused refusal at) f = inr f

pub string_number : (s : List ℕ) → StringNumber (read_string s)
unfolding read_string read_token
string_number s = go (opening s)
  where
    go : (o : Opening) → StringNumber (nothing_behind (length s) (read_from o s))
    go (opens st n) =
        opened_number (nothing_behind (length s) (read_from (opens st n) s)) (whole_fault (length s) (read_from (opens st n) s) (from_fault st n s))
    go unopened = inl refl
