-- A text divided at a byte: LF divides lines, and in a line "Tabs divide cells first".
-- Assumes nothing.
use Rattle.std.specs.Prelude.{ℕ, suc, Bool, true, false, List, [], ◌∷◌, eqb}
use Rattle.prelude.specs.Bytes.{TAB, LF, CR, space}
use Rattle.prelude.specs.Pick.{pick}

-- bytes of the text, and their place in it
pub record Part : Type 0 where
  pub place : ℕ
  pub bytes : List ℕ

abbrev pub part : ℕ → List ℕ → Part
part p w = record { place = p; bytes = w }

-- what stands before the first dividing byte, and what stands behind each of them
pub record Divided : Type 0 where
  pub first : List ℕ
  pub others : List Part

-- a byte in front, which divides or not; q is the place behind it
abbrev pub onward : Bool → ℕ → ℕ → Divided → Divided
onward true x q d = record { first = []; others = part q d.first ∷ d.others }
onward false x q d = record { first = x ∷ d.first; others = d.others }

-- a text whose first byte has the place p
unfoldable pub divided : ℕ → ℕ → List ℕ → Divided
divided sep p [] = record { first = []; others = [] }
divided sep p (x ∷ r) = onward (eqb x sep) x (suc p) (divided sep (suc p) r)

-- all parts, in order
abbrev pub parts_of : ℕ → Divided → List Part
parts_of p d = part p d.first ∷ d.others

-- a line: its place, what stands before its first tab, and the cells, each behind its tab
pub record Line : Type 0 where
  pub place : ℕ
  pub first : List ℕ
  pub cells : List Part

abbrev pub line : ℕ → Divided → Line
line p d = record { place = p; first = d.first; cells = d.others }

abbrev pub line_of : Part → Line
line_of l = line l.place (divided TAB l.place l.bytes)

-- "of only spaces and CR"
unfoldable pub is_gap : ℕ → Bool
is_gap x = pick (eqb x space) true (eqb x CR)

-- "Empty lines and those of only spaces and CR are ignored"
unfoldable pub is_ignored : List ℕ → Bool
is_ignored [] = true
is_ignored (x ∷ r) = pick (is_gap x) (is_ignored r) false

abbrev pub unless_ignored : Bool → Part → List Line → List Line
unless_ignored true l ls = ls
unless_ignored false l ls = line_of l ∷ ls

-- the lines that are left
unfoldable pub lines_left : List Part → List Line
lines_left [] = []
lines_left (l ∷ ls) = unless_ignored (is_ignored l.bytes) l (lines_left ls)

unfoldable pub lines_of : List ℕ → List Line
lines_of s = lines_left (parts_of 0 (divided LF 0 s))
