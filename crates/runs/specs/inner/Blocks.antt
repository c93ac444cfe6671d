-- What the scans of literal characters promise each other: these speak of the code alone, and no rule cites them.
-- Assumes nothing.
use Rattle.std.specs.Prelude.{ℕ, ◌+◌, ◌≤◌, ◌<◌, Bool, true, false, ◌||◌, List, ◌≡◌, leb, length, get_or, drop}
use Rattle.prelude.specs.Bytes.{backslash}
use Rattle.utf8.specs.Utf8.{tail}
use Rattle.notation.specs.declared.styles.Style.{Style}
use Rattle.notation.specs.Literals.{literal_len, literal_run}

-- from a place on, only literal characters stand before another place
pub record Running (st : Style) (s : List ℕ) (from at : ℕ) : Type 0 where
  pub onward : from ≤ at
  pub inside : at ≤ length s
  pub same : at + literal_run st 0 (drop at s) ≡ from + literal_run st 0 (drop from s)

-- the same, and if that place is before the end, no literal character stands there
pub record Ran (st : Style) (s : List ℕ) (from end at : ℕ) : Type 0 where
  pub run : Running st s from at
  pub stop : at < end → 0 ≡ literal_len st (drop at s)

-- a byte that stands for itself, whatever stands beside it, where q is the closing quote
pub record Alone (q b : ℕ) : Type 0 where
  pub printed : 32 ≤ b
  pub ascii : b < 128
  pub no_slash : b ≡ backslash → ⊥
  pub no_quote : b ≡ q → ⊥

-- a byte of a literal character of one or two bytes, and the byte behind it: a continuation behind a lead and nowhere else
pub record Paired (q b c : ℕ) : Type 0 where
  pub printed : 32 ≤ b
  pub short : b < 0xe0
  pub no_slash : b ≡ backslash → ⊥
  pub no_quote : b ≡ q → ⊥
  pub lead : 0xc0 ≤ b → 0xc2 ≤ b
  pub behind_lead : 0xc0 ≤ b → tail c ≡ true
  pub behind_other : b < 0xc0 → tail c ≡ false

-- a byte of a literal character of up to three bytes, and the two behind it: a continuation behind a lead, behind a lead of three bytes and
-- the byte after it, and nowhere else
pub record Tripled (q b c d : ℕ) : Type 0 where
  pub printed : 32 ≤ b
  pub short : b < 0xf0
  pub no_slash : b ≡ backslash → ⊥
  pub no_quote : b ≡ q → ⊥
  pub lead : 0xc0 ≤ b → 0xc2 ≤ b
  pub after_e0 : b ≡ 0xe0 → 0xa0 ≤ c
  pub after_ed : b ≡ 0xed → c < 0xa0
  pub third : tail d ≡ leb 0xc0 c || leb 0xe0 b

-- two bytes with which a character may begin
pub record Begun (b c : ℕ) : Type 0 where
  pub first : tail b ≡ false
  pub second : tail c ≡ leb 0xc0 b

abbrev pub AllAlone : ℕ → List ℕ → ℕ → ℕ → Type 0
AllAlone q s at n = (k : ℕ) → k < n → Alone q (get_or s (at + k) 0)

abbrev pub AllPaired : ℕ → List ℕ → ℕ → ℕ → Type 0
AllPaired q s at n = (k : ℕ) → k < n → Paired q (get_or s (at + k) 0) (get_or s (at + k + 1) 0)

abbrev pub AllTripled : ℕ → List ℕ → ℕ → ℕ → Type 0
AllTripled q s at n = (k : ℕ) → k < n → Tripled q (get_or s (at + k) 0) (get_or s (at + k + 1) 0) (get_or s (at + k + 2) 0)

-- how many bytes at a place belong to the character before it, by whether the first is a continuation
abbrev pub continued : Bool → ℕ
continued true = 1
continued false = 0

-- the same of up to two bytes, by whether each is a continuation
abbrev pub owed : Bool → Bool → ℕ
owed false u = 0
owed true false = 1
owed true true = 2
