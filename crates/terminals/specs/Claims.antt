-- What is claimed of what a terminal is shown: the claim is a type, and proofs/Claims.antt has a term of it.
-- Assumes nothing.
use Rattle.std.specs.Prelude.{ℕ, zero, suc, Bool, true, false, ◌&&◌, List, [], ◌∷◌, ◌++◌, ◌≡◌}
use Rattle.utf8.specs.Utf8.{between, encode}
use Rattle.strings.specs.Read.{StringRead, accepted, refused, read_string}
use Rattle.strings_write.specs.Write.{write_string}
use Rattle.tokens.specs.Words.{same_bytes}
use Rattle.terminals.specs.Terminals.{safe_text}

-- so many code points, one behind another
unfoldable pub from_on : ℕ → ℕ → List ℕ
from_on zero c = []
from_on (suc n) c = c ∷ from_on n (suc c)

-- the characters that would drive a terminal: DEL and the controls U+0080 to 009F, and the marks of direction U+061C, U+200E and 200F, U+202A to 202E,
-- U+2066 to 2069
abbrev pub driving : List ℕ
driving = from_on 33 0x7f ++ (from_on 1 0x61c ++ (from_on 2 0x200e ++ (from_on 5 0x202a ++ from_on 4 0x2066)))

unfoldable pub all_printed : List ℕ → Bool
all_printed [] = true
all_printed (x ∷ r) = between 0x20 0x7e x && all_printed r

unfoldable pub read_as : List ℕ → StringRead → Bool
read_as s (accepted bs e) = same_bytes bs s
read_as s (refused refusal at) = false

-- what is shown of a byte string has printed ASCII alone, and reads back as it
unfoldable pub tamed : List ℕ → Bool
tamed s = all_printed (safe_text (write_string s)) && read_as s (read_string (safe_text (write_string s)))

-- of each of them by itself, and before a byte that isn't UTF-8
unfoldable pub all_tamed : List ℕ → Bool
all_tamed [] = true
all_tamed (c ∷ r) = (tamed (encode c) && tamed (encode c ++ (0xff ∷ []))) && all_tamed r

abbrev pub ControlsAreEscaped : Type 0
ControlsAreEscaped = all_tamed driving ≡ true
