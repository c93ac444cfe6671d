-- What is claimed of the definitions of reading and writing strings, beside the contracts: each claim is a type, and
-- proofs/Claims.antt has a term of it.
-- Assumes nothing.
use Rattle.std.specs.Prelude.{ℕ, ◌+◌, ◌*◌, ◌≤◌, ◌<◌, true, List, [], ◌∷◌, ◌++◌, map, ◌⊎◌, ◌≡◌, length, get_or, take, Some, Result}
use Prim.Native.String.{String}
use Rattle.prelude.specs.Bytes.{IsBytes, ascii}
use Rattle.prelude.specs.declared.refusals.Refusal.{Refusal}
use Rattle.prelude.specs.declared.refusals.Refused.{Refused}
use Rattle.prelude.specs.Refusals.{too_long, no_opening, cut_off, bad_escape, surrogate, too_large, byte_escape, trailing, no_room, TextFault}
use Rattle.utf8.specs.Utf8.{char_len, char_fault, valid_utf8}
use Rattle.notation.specs.declared.styles.Style.{Style}
use Rattle.notation.specs.declared.styles.Style.TheVariants.{Unicode}
use Rattle.notation.specs.Styles.{took}
use Rattle.units.specs.Units.{unit_at}
use Rattle.strings.specs.declared.answers.Token.{Token}
use Rattle.notation.specs.Marks.{opens, opening}
use Rattle.strings.specs.Read.{StringRead, accepted, refused, read_units, read_token, read_string, read_text, token_numbers}
use Rattle.prelude.specs.Limits.{text_max}
use Rattle.strings_write.specs.Write.{write_bytes, write_string}

pub record Example : Type 0 where
  pub text : String
  pub answer : StringRead

-- "Example strings", in that order
abbrev pub examples : List Example
examples =
    record { text = "\"\""; answer = accepted [] 2 } ∷
    record { text = "''"; answer = accepted [] 2 } ∷
    record { text = "\"\\ud83e\\udd26\""; answer = accepted (0xf0 ∷ 0x9f ∷ 0xa4 ∷ 0xa6 ∷ []) 14 } ∷
    record { text = "\"\\udd26\""; answer = accepted (0xed ∷ 0xb4 ∷ 0xa6 ∷ []) 8 } ∷
    record { text = "\"\\ud83eA\""; answer = accepted (0xed ∷ 0xa0 ∷ 0xbe ∷ 0x41 ∷ []) 9 } ∷
    record { text = "b'\\yff'"; answer = accepted (0xff ∷ []) 7 } ∷
    record { text = "b'\\yff\\fe'"; answer = accepted (0xff ∷ 0x0c ∷ 0x65 ∷ []) 10 } ∷
    record { text = "u'\\yff'"; answer = refused byte_escape 2 } ∷
    record { text = "u'\\u{dc00}'"; answer = refused surrogate 2 } ∷
    record { text = "u'\\u{110000}'"; answer = refused too_large 2 } ∷
    record { text = "\"\\'\""; answer = refused bad_escape 1 } ∷
    record { text = "\"a"; answer = refused cut_off 2 } ∷
    record { text = "'a' x"; answer = refused trailing 3 } ∷ []

-- "Proved together, as a single list with a single claim": in any room of four bytes, which the longest of them needs
abbrev pub ExampleStrings : Type 0
ExampleStrings =
    (room : ℕ) → 4 ≤ room → map (λ (e : Example). read_text room (ascii e.text)) examples ≡ map (λ (e : Example). e.answer) examples

-- "a text of at most 32,768 bytes reads back the same", into any room that the byte string fits
abbrev pub WrittenReadsBack : Type 0
WrittenReadsBack =
    (room : ℕ) (s : List ℕ) → IsBytes s → length (write_string s) ≤ text_max → length s ≤ room
    → read_text room (write_string s) ≡ accepted s (length (write_string s))

-- the same of the `b''` form by itself
abbrev pub BytesFormReadsBack : Type 0
BytesFormReadsBack =
    (room : ℕ) (s : List ℕ) → IsBytes s → length (write_bytes s) ≤ text_max → length s ≤ room
    → read_text room (write_bytes s) ≡ accepted s (length (write_bytes s))

-- a written text of any length reads back as a token, whatever text follows it
abbrev pub WrittenTokenReadsBack : Type 0
WrittenTokenReadsBack = (s t : List ℕ) → IsBytes s → read_token (write_string s ++ t) ≡ accepted s (length (write_string s))

abbrev pub BytesFormTokenReadsBack : Type 0
BytesFormTokenReadsBack = (s t : List ℕ) → IsBytes s → read_token (write_bytes s ++ t) ≡ accepted s (length (write_bytes s))

-- "ends at its closing quote": what follows that takes no part in the reading
abbrev pub EndsAtItsQuote : Type 0
EndsAtItsQuote = (s t bs : List ℕ) (e : ℕ) → read_token s ≡ accepted bs e → read_token (take e s ++ t) ≡ accepted bs e

-- "an accepted u'' string always gives valid UTF-8", and so does `''`: as a text, and as a token in front of any text
abbrev pub UnicodeIsUtf8 : Type 0
UnicodeIsUtf8 = (room : ℕ) (s bs : List ℕ) (n e : ℕ) → opening s ≡ opens Unicode n → read_text room s ≡ accepted bs e → valid_utf8 bs ≡ true

abbrev pub UnicodeTokenIsUtf8 : Type 0
UnicodeTokenIsUtf8 = (s bs : List ℕ) (n e : ℕ) → opening s ≡ opens Unicode n → read_token s ≡ accepted bs e → valid_utf8 bs ≡ true

-- two byte strings with one text are one
abbrev pub WriterIsInjective : Type 0
WriterIsInjective = (s t : List ℕ) → IsBytes s → IsBytes t → write_string s ≡ write_string t → s ≡ t

-- a written text has no control byte, so it stands on one line
abbrev pub WrittenIsOneLine : Type 0
WrittenIsOneLine = (s : List ℕ) (i : ℕ) → i < length (write_string s) → 0x20 ≤ get_or (write_string s) i 0

abbrev pub BytesFormIsOneLine : Type 0
BytesFormIsOneLine = (s : List ℕ) (i : ℕ) → i < length (write_bytes s) → 0x20 ≤ get_or (write_bytes s) i 0

-- a refusal's place is in the text or at its end
abbrev pub PlacesInside : Type 0
PlacesInside = (room : ℕ) (s : List ℕ) (refusal : Refusal) (at : ℕ) → read_text room s ≡ refused refusal at → at ≤ length s

-- a text is refused with 2, 3, what its string is refused for, or 12; never with 5
abbrev pub Numbered : Refusal → Type 0
Numbered refusal = (refusal ≡ too_long) ⊎ ((refusal ≡ no_opening) ⊎ (TextFault refusal ⊎ (refusal ≡ no_room)))

abbrev pub RefusalsNumbered : Type 0
RefusalsNumbered = (room : ℕ) (s : List ℕ) (refusal : Refusal) (at : ℕ) → read_text room s ≡ refused refusal at → Numbered refusal

-- request [2], "Strings .. pass it up; places stay": where a unit begins and no character does, the refusal is the character's fault, there
abbrev pub FaultsPassedUp : Type 0
FaultsPassedUp =
    (st : Style) (p : ℕ) (s : List ℕ) → 0 < length s → char_len s ≡ 0
    → (fault : Refusal) × ((char_fault s ≡ Some fault) × (read_units st p 0 s ≡ refused fault p))

-- refusal 4 stands at the text's end
abbrev pub CutOffAtEnd : Type 0
CutOffAtEnd = (s : List ℕ) (at : ℕ) → read_string s ≡ refused cut_off at → at ≡ length s

-- a unit takes at least one byte, and no more than there are
abbrev pub UnitsProgress : Type 0
UnitsProgress = (st : Style) (s : List ℕ) (n : ℕ) (bs : List ℕ) → unit_at st s ≡ took n bs → (0 < n) × (n ≤ length s)

-- a written text is at most six bytes for each byte, and its quotes
abbrev pub WrittenLength : Type 0
WrittenLength = (s : List ℕ) → length (write_string s) ≤ 6 * length s + 2

-- a text denotes no more bytes than it has
abbrev pub ReadLength : Type 0
ReadLength = (s bs : List ℕ) (e : ℕ) → read_string s ≡ accepted bs e → length bs ≤ length s

-- an answer's numbers lose nothing of it: one set of numbers, one answer
abbrev pub TokensTellAll : Type 0
TokensTellAll = (v w : Result Token Refused) → token_numbers v ≡ token_numbers w → v ≡ w
