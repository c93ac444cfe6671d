-- The bytes that a stripped text holds as a line: itself where it stands bare, and between its marks where it has no backslash, as that is
-- one run of literal characters.
-- Assumes nothing.
use Prim.Native.Nat.{ℕ, ◌+◌, ◌-◌, ◌≤◌, ◌<◌}
use native.Mathlib.Nat.{zero-add}
use mathlib.Core.Bool.{true, false}
use mathlib.Core.List.{List, [], ◌∷◌}
use mathlib.Core.Path.{◌≡◌, refl, sym, ap, ◌∙◌}
use native.Mathlib.Omega.{arith}
use lib.Dec.{eqb}
use lib.ListN.{length, get_or, take, drop}
use lib.Seq.{take-length}
use borrow.Author.Tests.{eqb-true, eqb-false}
use Rattle.std.specs.Prelude.{Result, Ok, Err}
use Rattle.prelude.specs.declared.refusals.Refused.{Refused}
use Rattle.prelude.specs.Pick.{pick}
use Rattle.prelude.proofs.Cases.{split, never}
use Rattle.utf8.specs.Class.{class_of}
use Rattle.utf8.specs.Utf8.{long_len, len_by, char_len}
use Rattle.notation.specs.declared.styles.Style.{Style}
use Rattle.notation.specs.Styles.{quote}
use Rattle.notation.specs.Literals.{literal_run}
use Rattle.notation.specs.Marks.{opens, unopened, opening}
use Rattle.strings.specs.Read.{StringRead, accepted, refused, nothing_behind, read_token, read_string}
use Rattle.lines.specs.Line.{bare_fault, bare_from, bare, holds, from_string, from_bare, read_stripped}
use Rattle.tokens.specs.Words.{false_word, true_word}
use Rattle.json8.specs.Leaves.{slashed}
use Rattle.json8.proofs.Backslashes.{whole_run, slash_behind}
use Rattle.tsv8_cells.specs.Types.{is_float}
use Rattle.tsv8_cells.proofs.Numerals.{float_plain}
use Rattle.tsv8_cells.proofs.CellTexts.{plain_bare}

-- bare texts
pub false_bare : read_stripped false_word ≡ holds 1 false_word
unfolding read_stripped opening bare bare_from bare_fault char_len len_by long_len class_of pick
false_bare = refl

pub true_bare : read_stripped true_word ≡ holds 1 true_word
unfolding read_stripped opening bare bare_from bare_fault char_len len_by long_len class_of pick
true_bare = refl

pub number_bare : (w : List ℕ) → 0 < length w → is_float w ≡ true → read_stripped w ≡ holds 1 w
number_bare w h e = (plain_bare w h (float_plain w e)).same

from_bare_lem : (w bs : List ℕ) (kind : ℕ) (v : Result (Unit {0}) Refused) → from_bare w v ≡ holds kind bs → bs ≡ w
from_bare_lem w bs kind (Ok x) e = cc
from_bare_lem w bs kind (Err f) e = never cc

pub bare_holds : (w bs : List ℕ) (kind : ℕ) → opening w ≡ unopened → read_stripped w ≡ holds kind bs → bs ≡ w
unfolding read_stripped
bare_holds [] bs kind o e = never cc
bare_holds (x ∷ r) bs kind o e = from_bare_lem (x ∷ r) bs kind (bare (x ∷ r)) (rw o at e)

-- a string is one token and nothing more
from_holds : (n : ℕ) (r : StringRead) (kind : ℕ) (bs : List ℕ) → from_string (nothing_behind n r) ≡ holds kind bs → r ≡ accepted bs n
unfolding pick
from_holds n (accepted cs e) kind bs h =
    split (eqb e n)
    (λ q. let z = rw q at h in
    let a : cs ≡ bs = cc in
    rw (a, eqb-true e n q))
    (λ q. never (let z = rw q at h in cc))
from_holds n (refused refusal at) kind bs h = never cc

string_token : (w bs : List ℕ) (kind : ℕ) (st : Style) (k : ℕ) → opening w ≡ opens st k → read_stripped w ≡ holds kind bs
    → read_token w ≡ accepted bs (length w)
unfolding read_stripped read_string
string_token [] bs kind st k o e = never cc
string_token (x ∷ r) bs kind st k o e = from_holds (length (x ∷ r)) (read_token (x ∷ r)) kind bs (rw o at e)

module _ (w : List ℕ) (st : Style) (k : ℕ) where
  abbrev run : ℕ
  run = literal_run st 0 (drop (0 + k) w)

  abbrev end : ℕ
  end = 0 + k + run

  pub string_holds : (bs : List ℕ) (kind : ℕ) → opening w ≡ opens st k → slashed w ≡ false → read_stripped w ≡ holds kind bs
      → (k + 1 ≤ length w) × (bs ≡ take (length w - (k + 1)) (drop k w))
  string_holds bs kind o s e =
      let t : read_token w ≡ accepted bs (length w) = string_token w bs kind st k o e in
      split (eqb (get_or (drop end w) 0 0) (quote st))
      (λ q. let z : accepted (take run (drop (0 + k) w)) (k + run + 1) ≡ accepted bs (length w) = sym (whole_run w 0 k st o end refl (eqb-true _ _ q)) ∙ t in
      let a : take run (drop (0 + k) w) ≡ bs = cc in
      let b : k + run + 1 ≡ length w = cc in
      let c : run ≡ length w - (k + 1) = omega arith in
      (omega (arith, b), sym a ∙ ap (λ (n : ℕ). take n (drop (0 + k) w)) c ∙ ap (λ (n : ℕ). take (length w - (k + 1)) (drop n w)) (zero-add k)))
      (λ q. let z : slashed (take (length w) w) ≡ true = slash_behind w 0 k st o end refl (eqb-false _ _ q) bs (length w) t in
      let y : slashed w ≡ true = rw (take-length w) at z in
      never (let x : true ≡ false = sym y ∙ s in cc))
