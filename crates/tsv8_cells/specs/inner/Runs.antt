-- A text by places, as the code goes through it: this speaks of the code alone, and no rule cites it.
-- Assumes nothing.
use Rattle.std.specs.Prelude.{ℕ, suc, ◌+◌, ◌≤◌, ◌<◌, false, List, [], ◌∷◌, ◌≡◌, eqb, length, take, drop}
use Rattle.prelude.specs.Bytes.{TAB, LF}
use Rattle.prelude.specs.Pick.{pick}
use Rattle.line_ends.specs.inner.Ends.{line_run}
use Rattle.tsv8_cells.specs.Parts.{Part, Line, divided, parts_of, is_gap, is_ignored, lines_left}

-- how many bytes stand before the first tab or LF
unfoldable pub cell_run : List ℕ → ℕ
cell_run [] = 0
cell_run (x ∷ r) = pick (eqb x TAB) 0 (pick (eqb x LF) 0 (suc (cell_run r)))

-- how many spaces and CRs stand first
unfoldable pub gap_run : List ℕ → ℕ
gap_run [] = 0
gap_run (x ∷ r) = pick (is_gap x) (suc (gap_run r)) 0

-- a tab or an LF stands at a place, or the text ends there
abbrev pub Starts : List ℕ → ℕ → Type 0
Starts s q = cell_run (drop q s) ≡ 0

-- the bytes of a line from a place on, and its end
abbrev pub line_at : List ℕ → ℕ → List ℕ
line_at s q = take (line_run (drop q s)) (drop q s)

abbrev pub line_end : List ℕ → ℕ → ℕ
line_end s q = q + line_run (drop q s)

-- the cells of a line from a place on, each behind its tab
unfoldable pub cells_at : List ℕ → ℕ → List Part
cells_at s q = (divided TAB q (line_at s q)).others

-- the lines from a place on that are left
unfoldable pub lines_from : List ℕ → ℕ → List Line
lines_from s p = lines_left (parts_of p (divided LF p (drop p s)))

-- only ignored lines stand before a place, and at it a line that isn't, if the text has more
pub record Left (s : List ℕ) (from at : ℕ) : Type 0 where
  pub onward : from ≤ at
  pub inside : at ≤ length s + 1
  pub same : lines_from s from ≡ lines_from s at
  pub stays : at < length s → is_ignored (line_at s at) ≡ false
