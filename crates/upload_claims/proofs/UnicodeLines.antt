-- A line that is a `u''` string: its bytes are those of the string, and valid.
-- Assumes nothing.
use Prim.Native.Nat.{ℕ}
use mathlib.Core.Bool.{true}
use mathlib.Core.List.{List, [], ◌∷◌}
use mathlib.Core.Path.{◌≡◌, sym, ◌∙◌}
use Rattle.prelude.specs.Pick.{pick}
use Rattle.prelude.proofs.Cases.{never}
use Rattle.utf8.specs.Utf8.{valid_utf8}
use Rattle.notation.specs.declared.styles.Style.TheVariants.{Unicode}
use Rattle.notation.specs.Marks.{opens, opening}
use Rattle.strings.specs.Read.{StringRead, accepted, refused, read_string}
use Rattle.strings.proofs.Utf8Denoted.{Valid, unicode_valid}
use Rattle.lines.specs.Line.{holds, kind_of, from_string, read_stripped, shifted, strip, leads, read_line}

abbrev Utf8 : ℕ → List ℕ → Type 0
Utf8 kind bs = (kind ≡ 1) × (valid_utf8 bs ≡ true)

string_line : (k kind : ℕ) (bs : List ℕ) (v : StringRead) → Valid v → shifted k (from_string v) ≡ holds kind bs → Utf8 kind bs
unfolding kind_of pick
string_line k kind bs (accepted cs e) v h =
    let a : kind_of cs ≡ kind = cc in
    let b : cs ≡ bs = cc in
    let c : kind_of cs ≡ 1 = rw v in
    (sym a ∙ c, rw b at v)
string_line k kind bs (refused refusal at) v h = never cc

stripped_line : (k kind n : ℕ) (bs s : List ℕ) → opening s ≡ opens Unicode n → shifted k (read_stripped s) ≡ holds kind bs → Utf8 kind bs
unfolding read_stripped
stripped_line k kind n bs [] o h = never cc
stripped_line k kind n bs (x ∷ r) o h = string_line k kind bs (read_string (x ∷ r)) (unicode_valid (x ∷ r) n o) (rw o at h)

pub unicode_line : (l bs : List ℕ) (n kind : ℕ) → opening (strip l) ≡ opens Unicode n → read_line l ≡ holds kind bs → Utf8 kind bs
unfolding read_line
unicode_line l bs n kind o h = stripped_line (leads l) kind n bs (strip l) o h
