-- One unit as it is written: "at each byte a well-formed character starting there is copied (escaped by `\'`, `\\`, letter or
-- `\yhh` where quote, backslash or control), else that one byte becomes `\yhh`. Digits are lower case. `/` is never escaped."
-- Assumes nothing.
use Rattle.std.specs.Prelude.{ℕ, zero, suc, ◌+◌, ◌-◌, ◌/◌, ◌%◌, List, [], ◌∷◌, ltb, eqb, take}
use Prim.Native.Char.{code}
use Rattle.prelude.specs.Bytes.{backspace, TAB, LF, form_feed, CR, backslash}
use Rattle.prelude.specs.Pick.{pick}
use Rattle.notation.specs.declared.styles.Form.{Form}
use Rattle.notation.specs.declared.styles.Form.TheVariants.{AsJson, AsBytes}
use Rattle.notation.specs.Styles.{quote, style_of}
use Rattle.escapes.specs.Escapes.{lookup}

unfoldable pub hex_digit : ℕ → ℕ
hex_digit d = pick (ltb d 10) (code "0" + d) (code "a" + (d - 10))

-- a byte by its number: `\u00hh`, `\yhh`
unfoldable pub by_number : Form → ℕ → List ℕ
by_number AsJson x = backslash ∷ code "u" ∷ code "0" ∷ code "0" ∷ hex_digit (x / 16) ∷ hex_digit (x % 16) ∷ []
by_number AsBytes x = backslash ∷ code "y" ∷ hex_digit (x / 16) ∷ hex_digit (x % 16) ∷ []

-- the bytes with a two-byte escape, the quote, the backslash and "the five letter escapes", and what follows its backslash
abbrev pub escaped : Form → List (ℕ × ℕ)
escaped form =
    (quote (style_of form), quote (style_of form)) ∷ (backslash, backslash) ∷
    (backspace, code "b") ∷ (form_feed, code "f") ∷ (LF, code "n") ∷ (CR, code "r") ∷ (TAB, code "t") ∷ []

-- a byte that isn't written as it is: by its letter, or else by its number
unfoldable pub escape_byte : Form → ℕ → List ℕ
escape_byte form x = pick (eqb (lookup x (escaped form)) 0) (by_number form x) (backslash ∷ lookup x (escaped form) ∷ [])

-- the character of n bytes that x begins, or the byte x where n is 0; r follows x
unfoldable pub written : Form → ℕ → ℕ → List ℕ → List ℕ
written form zero x r = by_number form x
written form (suc n) x r =
    pick (eqb (lookup x (escaped form)) 0)
    (pick (ltb x 32) (by_number form x) (x ∷ take n r))
    (backslash ∷ lookup x (escaped form) ∷ [])
