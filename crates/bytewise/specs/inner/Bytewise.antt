-- What the parts of the writer of valid data promise each other: these speak of the code alone, and no rule cites them.
-- Assumes nothing.
use Rattle.std.specs.Prelude.{ℕ, ◌+◌, ◌-◌, ◌<◌, ◌≤◌, ◌||◌, List, [], ◌∷◌, ◌++◌, ◌≡◌, ltb, eqb, length, get_or, take, drop}
use Rattle.std.proofs.lemmas.List.Edits.{sets}
use Rattle.prelude.specs.Bytes.{double_quote, backslash}
use Rattle.prelude.specs.Pick.{pick}
use Rattle.notation.specs.declared.styles.Style.TheVariants.{Json}
use Rattle.notation.specs.declared.styles.Form.TheVariants.{AsJson}
use Rattle.utf8.specs.Utf8.{tail}
use Rattle.runs.specs.inner.Blocks.{Running, owed}
use Rattle.units.specs.Written.{escape_byte}

-- a byte of valid data in `""`: by its escape where it is a control, the quote or the backslash, or else as it is
unfoldable pub byte_text : ℕ → List ℕ
byte_text x = pick (ltb x 32) (escape_byte AsJson x) (pick (eqb x double_quote || eqb x backslash) (backslash ∷ x ∷ []) (x ∷ []))

unfoldable pub bytes_text : List ℕ → List ℕ
bytes_text [] = []
bytes_text (x ∷ r) = byte_text x ++ bytes_text r

-- the same of the bytes from one place to another
abbrev pub text_of : List ℕ → ℕ → ℕ → List ℕ
text_of s from at = bytes_text (take (at - from) (drop from s))

-- n bytes without a control
abbrev pub NoControl : List ℕ → ℕ → ℕ → Type 0
NoControl s at n = (k : ℕ) → k < n → 32 ≤ get_or s (at + k) 0

-- n bytes that stand as they are
abbrev pub Unmarked : List ℕ → ℕ → ℕ → Type 0
Unmarked s at n = (k : ℕ) → k < n → byte_text (get_or s (at + k) 0) ≡ get_or s (at + k) 0 ∷ []

-- the text of the bytes from one place to another is stored at o, and r is the place behind it
pub record Texted (s : List ℕ) (from at o : ℕ) (out : List ℕ) (r : ℕ) (new : List ℕ) : Type 0 where
  pub size : r ≡ o + length (text_of s from at)
  pub stored : new ≡ sets out o (text_of s from at)

-- the bytes before a place are literal characters and stand behind the opening quote
pub record Fronted (s out : List ℕ) (at : ℕ) (new : List ℕ) : Type 0 where
  pub run : Running Json s 0 at
  pub stored : new ≡ sets out 0 (double_quote ∷ take at s)

-- the same from one place to another, whatever stood in the buffer before
abbrev pub Onward : List ℕ → ℕ → ℕ → List ℕ → List ℕ → Type 0
Onward s from at out new = (o : List ℕ) → Fronted s o from out → Fronted s o at new

-- how many bytes at a place belong to the character before it, if it has up to three
abbrev pub owed_at : List ℕ → ℕ → ℕ
owed_at s at = owed (tail (get_or s at 0)) (tail (get_or s (at + 1) 0))
