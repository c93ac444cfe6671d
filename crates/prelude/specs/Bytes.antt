-- Byte strings, texts of ASCII characters as bytes, and the bytes that the rules name. A letter is named by `code`.
-- Assumes nothing.
use Rattle.std.specs.Prelude.{ℕ, ◌<◌, List, [], ◌∷◌, get_or}
use Prim.Native.Char.{code}
use Prim.Native.String.{String}
use Prim.Native.String

-- a list of numbers is a byte string
abbrev pub IsBytes : List ℕ → Type 0
IsBytes s = (i : ℕ) → get_or s i 0 < 256

-- a text of ASCII characters, as bytes
abbrev pub ascii : String → List ℕ
ascii String.[] = []
ascii (String.◌∷◌ c s) = code c ∷ ascii s

abbrev pub backspace : ℕ
backspace = 8

abbrev pub TAB : ℕ
TAB = 9

abbrev pub LF : ℕ
LF = 10

abbrev pub form_feed : ℕ
form_feed = 12

abbrev pub CR : ℕ
CR = 13

abbrev pub space : ℕ
space = 32

abbrev pub double_quote : ℕ
double_quote = code "\""

abbrev pub single_quote : ℕ
single_quote = code "'"

abbrev pub backslash : ℕ
backslash = code "\\"
