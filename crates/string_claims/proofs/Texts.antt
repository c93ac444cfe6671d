-- Whole texts: the cap and the room change an answer to 2 or 12 alone, so an accepted text is an accepted string.
-- Assumes nothing.
use Prim.Native.Nat.{ℕ, ◌≤◌}
use mathlib.Core.List.{List, [], ◌∷◌, map}
use mathlib.Core.Path.{◌≡◌, refl}
use native.Mathlib.Omega.{arith}
use borrow.Author.Tests.{le-ltb}
use lib.Dec.{ltb}
use lib.ListN.{length, drop}
use Rattle.prelude.specs.Bytes.{ascii}
use Rattle.prelude.specs.Limits.{text_max}
use Rattle.prelude.specs.Pick.{pick}
use Rattle.prelude.proofs.Picks.{pick_case}
use Rattle.notation.specs.declared.styles.Style.TheVariants.{Unicode}
use Rattle.notation.specs.Marks.{opens, opening}
use Rattle.strings.specs.Read.{StringRead, accepted, refused, fitted, read_token, read_string, read_text}
use Rattle.strings.proofs.Steps.{read_skip}
use Rattle.strings.proofs.Utf8Denoted.{Valid, units_valid, unicode_valid}
use Rattle.string_claims.specs.Claims.{Example}

fitted_valid : (room : ℕ) (r : StringRead) → Valid r → Valid (fitted room r)
fitted_valid room (accepted bs e) v = pick_case Valid (ltb room (length bs)) _ _ (λ q. tt) (λ q. v)
fitted_valid room (refused refusal at) v = tt

pub text_valid : (room : ℕ) (s : List ℕ) (n : ℕ) → opening s ≡ opens Unicode n → Valid (read_text room s)
unfolding read_text
text_valid room s n o =
    pick_case Valid (ltb text_max (length s)) _ _ (λ q. tt) (λ q. fitted_valid room (read_string s) (unicode_valid s n o))

pub token_valid : (s : List ℕ) (n : ℕ) → opening s ≡ opens Unicode n → Valid (read_token s)
unfolding read_token
token_valid s n o = rw (o, read_skip Unicode n n s) (units_valid (drop n s) n)

-- examples
abbrev Short : StringRead → Type 0
Short (accepted bs e) = length bs ≤ 4
Short (refused refusal at) = Unit

text_of : (room : ℕ) (s : List ℕ) (r : StringRead) → read_string s ≡ r → length s ≤ text_max → Short r → 4 ≤ room → read_text room s ≡ r
unfolding read_text pick
text_of room s (accepted bs e) p h k l =
    let f : length bs ≤ room = omega arith in rw (le-ltb text_max (length s) h, p, le-ltb room (length bs) f)
text_of room s (refused refusal at) p h k l = rw (le-ltb text_max (length s) h, p)

pub record Good (e : Example) : Type 0 where
  pub read : read_string (ascii e.text) ≡ e.answer
  pub fits : length (ascii e.text) ≤ text_max
  pub short : Short e.answer

abbrev pub AllGood : List Example → Type 0
AllGood [] = Unit
AllGood (e ∷ es) = Good e × AllGood es

pub all_texts : (room : ℕ) → 4 ≤ room → (es : List Example) → AllGood es
    → map (λ (e : Example). read_text room (ascii e.text)) es ≡ map (λ (e : Example). e.answer) es
all_texts room l [] g = refl
all_texts room l (e ∷ es) (a, b) =
    λ i. text_of room (ascii e.text) e.answer a.read a.fits a.short l i ∷ all_texts room l es b i
