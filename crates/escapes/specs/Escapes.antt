-- One escape of a J8 string, by document 01's list, a sentence of it quoted at each definition.
-- Assumes nothing.
use Rattle.std.specs.Prelude.{ℕ, zero, suc, ◌+◌, ◌-◌, ◌*◌, Bool, ◌&&◌, List, [], ◌∷◌, ◌≤◌, ◌<◌, ◌≡◌, ltb, eqb, get_or, drop, Option, Some, None}
use Prim.Native.Char.{code}
use Rattle.prelude.specs.Bytes.{backspace, TAB, LF, form_feed, CR, double_quote, single_quote, backslash}
use Rattle.prelude.specs.Pick.{pick}
use Rattle.prelude.specs.Refusals.{bad_escape, surrogate, too_large, byte_escape}
use Rattle.utf8.specs.Utf8.{between, encode}
use Rattle.notation.specs.declared.styles.Style.{Style}
use Rattle.notation.specs.declared.styles.Style.TheVariants.{Json, Unicode, Bytes}
use Rattle.notation.specs.Styles.{StringUnit, took, fault}
use Rattle.escapes.specs.Hex.{hex_run, hex_number}

-- the number beside x in a table of pairs, 0 where x isn't in it
unfoldable pub lookup : ℕ → List (ℕ × ℕ) → ℕ
lookup x [] = 0
lookup x (e ∷ t) = pick (eqb x e.0) e.1 (lookup x t)

-- "All styles: `\"` `\\` `\/` `\b` `\f` `\n` `\r` `\t`": what follows the backslash, and the byte that it denotes
abbrev pub letters : List (ℕ × ℕ)
letters =
    (double_quote, double_quote) ∷ (backslash, backslash) ∷ (code "/", code "/") ∷
    (code "b", backspace) ∷ (code "f", form_feed) ∷ (code "n", LF) ∷ (code "r", CR) ∷ (code "t", TAB) ∷ []

-- "Single-quoted only: `\'`"
abbrev pub letters_of : Style → List (ℕ × ℕ)
letters_of Json = letters
letters_of Unicode = (single_quote, single_quote) ∷ letters
letters_of Bytes = (single_quote, single_quote) ∷ letters

-- the code finds the number beside a letter, none where the table has none
abbrev pub Tells : Option ℕ → ℕ → Type 0
Tells (Some b) v = (0 < b) × (b ≡ v)
Tells None v = v ≡ 0

-- "A high half (d800 to dbff)", "an escaped low half (dc00 to dfff)"
abbrev pub high : ℕ → Bool
high v = between 0xd800 0xdbff v

abbrev pub low : ℕ → Bool
low v = between 0xdc00 0xdfff v

-- an escaped low half stands first; its number, 0 where none does
abbrev pub is_low : List ℕ → Bool
is_low r = eqb (get_or r 0 0) backslash && eqb (get_or r 1 0) (code "u") && eqb (hex_run 4 (drop 2 r)) 4 && low (hex_number 4 (drop 2 r))

unfoldable pub low_half : List ℕ → ℕ
low_half r = pick (is_low r) (hex_number 4 (drop 2 r)) 0

-- the code's low half as that number
abbrev pub half_of : Option ℕ → ℕ
half_of (Some w) = w
half_of None = 0

abbrev pub IsHalf : Option ℕ → Type 0
IsHalf (Some w) = (0xdc00 ≤ w) × (w ≤ 0xdfff)
IsHalf None = Unit

-- the number v, and the low half w behind it or 0: "A high half .. directly followed by an escaped low half .. is one
-- character. Any other half gives the three bytes of the ordinary pattern for its number"
unfoldable pub code_unit : ℕ → ℕ → StringUnit
code_unit v w =
    pick (high v && ltb 0 w)
    (took 12 (encode (0x10000 + (v - 0xd800) * 0x400 + (w - 0xdc00))))
    (took 6 (encode v))

-- "`""` only: `\u` and four hex digits"; r follows the `\u`
unfoldable pub four_digits : List ℕ → StringUnit
four_digits r = pick (eqb (hex_run 4 r) 4) (code_unit (hex_number 4 r) (low_half (drop 4 r))) (fault bad_escape)

-- refusals 8 and 9: "`\u{h}` of one to six digits, from d800 to dfff", "above 10ffff"; n is the escape's length
unfoldable pub scalar : ℕ → ℕ → StringUnit
scalar n v = pick (between 0xd800 0xdfff v) (fault surrogate) (pick (ltb 0x10ffff v) (fault too_large) (took n (encode v)))

-- "`\u{h}` with one to six hex digits"; c is the byte behind the `\u`, and r follows it
abbrev pub is_braced : ℕ → List ℕ → Bool
is_braced c r = eqb c (code "{") && between 1 6 (hex_run 7 r) && eqb (get_or r (hex_run 7 r) 0) (code "}")

unfoldable pub braced : List ℕ → StringUnit
braced [] = fault bad_escape
braced (c ∷ r) = pick (is_braced c r) (scalar (4 + hex_run 7 r) (hex_number 7 r)) (fault bad_escape)

-- a `\u`; r follows it
abbrev pub code_point : Style → List ℕ → StringUnit
code_point Json r = four_digits r
code_point Unicode r = braced r
code_point Bytes r = braced r

-- "`b''` only: `\y` and exactly two hex digits, one byte"; refusal 10: "`\y` in `u''` or `''`, whatever follows it"; r follows the `\y`
unfoldable pub raw_byte : Style → List ℕ → StringUnit
raw_byte Json r = fault bad_escape
raw_byte Unicode r = fault byte_escape
raw_byte Bytes r = pick (eqb (hex_run 2 r) 2) (took 4 (hex_number 2 r ∷ [])) (fault bad_escape)

-- a two-byte escape for the byte b; 0 stands for no such escape
abbrev pub letter_escape : ℕ → StringUnit
letter_escape zero = fault bad_escape
letter_escape (suc b) = took 2 (suc b ∷ [])

-- an escape; the argument follows its backslash
unfoldable pub escape : Style → List ℕ → StringUnit
escape st [] = fault bad_escape
escape st (c ∷ r) =
    pick (eqb c (code "u")) (code_point st r)
    (pick (eqb c (code "y")) (raw_byte st r)
    (letter_escape (lookup c (letters_of st))))
