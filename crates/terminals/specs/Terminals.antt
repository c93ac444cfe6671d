-- A text as a terminal is shown it: in its strings DEL, the controls U+0080 to 009F and the marks of direction are escaped, so that None of them
-- drives the terminal.
-- Assumes nothing.
use Rattle.std.specs.Prelude.{ℕ, ◌-◌, ◌/◌, ◌%◌, Bool, true, false, List, [], ◌∷◌, ◌++◌, eqb, leb, ltb, get_or, Option, Some, None, is_none}
use Rattle.prelude.specs.Bytes.{ascii, double_quote, single_quote, backslash}
use Rattle.prelude.specs.Pick.{pick}
use Rattle.units.specs.Written.{hex_digit}
use Rattle.terminals.specs.declared.Control.{Control}
use Rattle.terminals.specs.declared.Mode.{Mode}

-- a character that would drive a terminal: how many bytes stand behind its first, and its code point as two bytes
abbrev pub control : ℕ → ℕ → ℕ → Option Control
control rest high low = Some (record { rest = rest; high = high; low = low })

-- U+0080 to 009F, by the byte behind c2
unfoldable pub second : ℕ → Option Control
second y = pick (ltb y 0x80) None (pick (leb y 0x9f) (control 1 0 y) None)

-- U+200E, 200F and U+202A to 202E, by the byte behind e2 80
unfoldable pub direction : ℕ → Option Control
direction z =
    pick (ltb z 0x8e) None
    (pick (leb z 0x8f) (control 2 0x20 (z - 0x80))
    (pick (ltb z 0xaa) None (pick (leb z 0xae) (control 2 0x20 (z - 0x80)) None)))

-- U+2066 to 2069, by the byte behind e2 81
unfoldable pub isolate : ℕ → Option Control
isolate z = pick (ltb z 0xa6) None (pick (leb z 0xa9) (control 2 0x20 (z - 0x40)) None)

-- U+061C, by the byte behind d8
unfoldable pub arabic : ℕ → Option Control
arabic y = pick (eqb y 0x9c) (control 1 0x06 0x1c) None

-- by the bytes behind e2
unfoldable pub general : ℕ → ℕ → Option Control
general y z = pick (eqb y 0x80) (direction z) (pick (eqb y 0x81) (isolate z) None)

-- the character that the three bytes begin with: U+007F or one of those above
unfoldable pub control_of : ℕ → ℕ → ℕ → Option Control
control_of x y z =
    pick (eqb x 0x7f) (control 0 0 0x7f)
    (pick (eqb x 0xc2) (second y)
    (pick (eqb x 0xd8) (arabic y)
    (pick (eqb x 0xe2) (general y z) None)))

-- where a byte stands: outside a string or in one with this closing quote; behind a backslash there; among bytes of a character that is escaped
-- already, so many with it
abbrev pub mode : Option ℕ → Bool → ℕ → Mode
mode quote behind skip = record { quote = quote; behind = behind; skip = skip }

-- the character to escape at the head of a text, if there is one
unfoldable pub control_in : Mode → List ℕ → Option Control
control_in m s =
    pick (is_none m.quote) None
    (pick m.behind None
    (pick (ltb 0 m.skip) None (control_of (get_or s 0 0) (get_or s 1 0) (get_or s 2 0))))

-- the mode behind a byte outside a string: a quote opens one
unfoldable pub outer : ℕ → Mode
outer x = pick (eqb x double_quote) (mode (Some x) false 0) (pick (eqb x single_quote) (mode (Some x) false 0) (mode None false 0))

-- behind a byte of a string
unfoldable pub inner : ℕ → ℕ → Mode
inner quote x = pick (eqb x quote) (mode None false 0) (pick (eqb x backslash) (mode (Some quote) true 0) (mode (Some quote) false 0))

abbrev pub unless_behind : Option ℕ → ℕ → Mode
unless_behind None x = outer x
unless_behind (Some quote) x = inner quote x

-- behind a byte that begins no character to escape
unfoldable pub plain_after : Mode → ℕ → Mode
plain_after m x = pick m.behind (mode m.quote false 0) (unless_behind m.quote x)

-- behind one that may begin one
abbrev pub begun_after : Mode → Option Control → ℕ → Mode
begun_after m (Some c) x = mode m.quote false c.rest
begun_after m None x = plain_after m x

-- behind the byte x, where the character c is escaped, if there is one
unfoldable pub mode_after : Mode → Option Control → ℕ → Mode
mode_after m c x = pick (ltb 0 m.skip) (mode m.quote false (m.skip - 1)) (begun_after m c x)

-- a byte's two digits, and the four of a code point
abbrev pub digits : ℕ → List ℕ
digits x = hex_digit (x / 16) ∷ hex_digit (x % 16) ∷ []

abbrev pub code_text : Control → List ℕ
code_text c = digits c.high ++ digits c.low

abbrev pub is_double : Option ℕ → Bool
is_double None = false
is_double (Some quote) = eqb quote double_quote

-- `\uhhhh` in `""`, `\u{hhhh}` in single quotes
unfoldable pub escape_text : Option ℕ → Control → List ℕ
escape_text quote c =
    pick (is_double quote) (ascii "\\u" ++ code_text c) (ascii "\\u{" ++ (code_text c ++ ascii "}"))

-- what is shown for the byte x: the escape of the character that it begins, nothing where that is done, or the byte
unfoldable pub byte_text : Mode → Option Control → ℕ → List ℕ
byte_text m (Some c) x = escape_text m.quote c
byte_text m None x = pick (ltb 0 m.skip) [] (x ∷ [])

-- what is shown of a text, by the mode where it begins
unfoldable pub safe_from : Mode → List ℕ → List ℕ
safe_from m [] = []
safe_from m (x ∷ r) = byte_text m (control_in m (x ∷ r)) x ++ safe_from (mode_after m (control_in m (x ∷ r)) x) r

abbrev pub safe_text : List ℕ → List ℕ
safe_text text = safe_from (mode None false 0) text
