-- What is claimed of the character check: it takes the patterns of the scalar values and nothing else, and names the fault as source 003 does.
-- Assumes nothing.
use Rattle.std.specs.Prelude.{Some, None, Err, ℕ, suc, ◌≤◌, ◌<◌, List, [], ◌∷◌, true, false, ◌⊎◌, ◌≡◌, length, take}
use Rattle.prelude.specs.Pick.{pick}
use Rattle.prelude.specs.declared.refusals.Refusal.{Refusal}
use Rattle.prelude.specs.Refusals.{FromTo, utf8_bad_encoding, utf8_incomplete, utf8_overlong, utf8_surrogate, utf8_too_large}
use Rattle.utf8.specs.Utf8.{tail, no_start, wanted, has_tails, value_of, char_len, char_fault, char_at, encode}

-- a number that UTF-8 encodes: RFC 3629, section 3, "U+0000..U+10FFFF", and "prohibits encoding character numbers between U+D800 and U+DFFF"
abbrev pub IsScalar : ℕ → Type 0
IsScalar v = (v < 0x110000) × (0xd800 ≤ v → v ≤ 0xdfff → ⊥)

-- the pattern of a scalar value is one character
abbrev pub ScalarsAreCharacters : Type 0
ScalarsAreCharacters = (v : ℕ) → IsScalar v → char_len (encode v) ≡ length (encode v)

-- a character that the check takes is the pattern of a scalar value
abbrev pub CharactersAreScalars : Type 0
CharactersAreScalars = (a : ℕ) (r : List ℕ) (n : ℕ) → char_len (a ∷ r) ≡ suc n → (v : ℕ) × (IsScalar v × (encode v ≡ a ∷ take n r))

-- each way
abbrev pub Exactly : Type 0 → Type 0 → Type 0
Exactly A B = (A → B) × (B → A)

-- a character is good exactly where none of the five faults is
abbrev pub GoodWithoutFault : Type 0
GoodWithoutFault = (a : ℕ) (r : List ℕ) → Exactly (0 < char_len (a ∷ r)) (char_fault (a ∷ r) ≡ None)

-- every ill-formed beginning has one of the five
abbrev pub OneOfFive : Type 0
OneOfFive =
    (a : ℕ) (r : List ℕ) → char_len (a ∷ r) ≡ 0
    → (fault : Refusal) × ((char_fault (a ∷ r) ≡ Some fault) × FromTo utf8_bad_encoding utf8_too_large fault)

-- source 003, "Bad encoding. A byte is not encoded like a UTF-8 start byte or a continuation byte."; request [2], "at the start"
abbrev pub BadEncodingNamed : Type 0
BadEncodingNamed =
    (a : ℕ) (r : List ℕ) → Exactly (char_at (a ∷ r) ≡ Err utf8_bad_encoding) (((0x80 ≤ a) × (a ≤ 0xbf)) ⊎ (0xf8 ≤ a))

-- how many continuation bytes stand first
unfoldable pub tail_run : List ℕ → ℕ
tail_run [] = 0
tail_run (b ∷ r) = pick (tail b) (suc (tail_run r)) 0

-- fewer than the start says: RFC 3629, section 3, "110xxxxx 10xxxxxx", "1110xxxx 10xxxxxx 10xxxxxx", "11110xxx 10xxxxxx 10xxxxxx 10xxxxxx"
abbrev pub TooFew : ℕ → List ℕ → Type 0
TooFew a r =
    (((0xc0 ≤ a) × (a ≤ 0xdf)) × (tail_run r < 1))
    ⊎ ((((0xe0 ≤ a) × (a ≤ 0xef)) × (tail_run r < 2)) ⊎ (((0xf0 ≤ a) × (a ≤ 0xf7)) × (tail_run r < 3)))

-- "Incomplete sequence. Too few continuation bytes appeared after the start byte."
abbrev pub IncompleteNamed : Type 0
IncompleteNamed = (a : ℕ) (r : List ℕ) → Exactly (char_at (a ∷ r) ≡ Err utf8_incomplete) (TooFew a r)

-- a start with all the continuation bytes that it asks for
pub record Complete (a : ℕ) (r : List ℕ) : Type 0 where
  pub start : no_start a ≡ false
  pub tails : has_tails (wanted a) r ≡ true

-- "In UTF-8, each code point should be represented with the fewest possible bytes."; the ordinary pattern of the number has fewer
abbrev pub Overlong : ℕ → List ℕ → Type 0
Overlong a r = length (encode (value_of a r)) < suc (wanted a)

-- "Overlong encoding."
abbrev pub OverlongNamed : Type 0
OverlongNamed = (a : ℕ) (r : List ℕ) → Exactly (char_at (a ∷ r) ≡ Err utf8_overlong) (Complete a r × Overlong a r)

-- "Surrogate code point. The sequence decodes to a code point in the surrogate range"; "overlong first"
abbrev pub SurrogateNamed : Type 0
SurrogateNamed =
    (a : ℕ) (r : List ℕ)
    → Exactly (char_at (a ∷ r) ≡ Err utf8_surrogate)
    (Complete a r × ((Overlong a r → ⊥) × ((0xd800 ≤ value_of a r) × (value_of a r ≤ 0xdfff))))

-- "Exceeds max code point. The sequence decodes to an integer that's larger than the maximum code point."
abbrev pub TooLargeNamed : Type 0
TooLargeNamed = (a : ℕ) (r : List ℕ) → Exactly (char_at (a ∷ r) ≡ Err utf8_too_large) (Complete a r × (0x10ffff < value_of a r))

-- "The sequence decodes to an integer": the number whose ordinary pattern it is, above 10ffff too
abbrev pub ValuesAreWritten : Type 0
ValuesAreWritten = (a : ℕ) (r : List ℕ) → Complete a r → (Overlong a r → ⊥) → encode (value_of a r) ≡ a ∷ take (wanted a) r
