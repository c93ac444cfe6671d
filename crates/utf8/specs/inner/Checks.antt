-- What the check and the scans of validity promise each other: these speak of the code alone, and no rule cites them.
-- Assumes nothing.
use Rattle.std.specs.Prelude.{ℕ, ◌+◌, ◌-◌, ◌<◌, ◌≤◌, List, ◌≡◌, length, get_or, drop}
use Rattle.utf8.specs.Utf8.{char_len, valid_from}

-- bytes below DEL: the ASCII that a comparison with 127 tells
abbrev pub AllLow : List ℕ → ℕ → ℕ → Type 0
AllLow s at n = (k : ℕ) → k < n → get_or s (at + k) 0 < 0x7f

-- all bytes from a place on are below DEL, and so are the text's last sixteen
pub record LowFrom (s : List ℕ) (from : ℕ) : Type 0 where
  pub enough : 16 ≤ length s
  pub rest : AllLow s from (length s - from)
  pub last : AllLow s (length s - 16) 16

-- what is left from a place on is valid exactly if it is from another on
pub record ValidAs (s : List ℕ) (from at : ℕ) : Type 0 where
  pub onward : from ≤ at
  pub inside : at ≤ length s
  pub same : valid_from 0 (drop at s) ≡ valid_from 0 (drop from s)

-- blocks of n bytes below DEL stand from a place on before another, and none there
pub record LowBlocks (s : List ℕ) (from n at : ℕ) : Type 0 where
  pub alike : ValidAs s from at
  pub low : AllLow s from (at - from)
  pub stop : at + n ≤ length s → AllLow s at n → ⊥

-- the same as `ValidAs`, and if that place is before the end, no character stands there
pub record ValidUntil (s : List ℕ) (from end at : ℕ) : Type 0 where
  pub alike : ValidAs s from at
  pub stop : at < end → char_len (drop at s) ≡ 0
