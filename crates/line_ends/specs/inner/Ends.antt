-- What the functions that look for an LF promise: this speaks of the code alone, and no rule cites it.
-- Assumes nothing.
use Rattle.std.specs.Prelude.{ℕ, suc, ◌+◌, ◌<◌, List, [], ◌∷◌, ◌≡◌, eqb, get_or}
use Rattle.prelude.specs.Bytes.{LF}
use Rattle.prelude.specs.Pick.{pick}

-- how many bytes stand before the first LF
unfoldable pub line_run : List ℕ → ℕ
line_run [] = 0
line_run (b ∷ bs) = pick (eqb b LF) 0 (suc (line_run bs))

-- n bytes from a place on, none of them an LF
abbrev pub NoLf : List ℕ → ℕ → ℕ → Type 0
NoLf p at n = (k : ℕ) → k < n → get_or p (at + k) 0 ≡ LF → ⊥
