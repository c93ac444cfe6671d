-- One line of J8 Lines, a sentence of document 01 quoted at each definition.
-- Assumes nothing.
use Rattle.std.specs.Prelude.{ℕ, zero, suc, pred, ◌+◌, Bool, true, List, [], ◌∷◌, ltb, eqb, drop, ⊤, Option, Some, None, Result, Ok, Err}
use Rattle.prelude.specs.Bytes.{space, TAB, CR}
use Rattle.prelude.specs.Pick.{pick}
use Rattle.prelude.specs.declared.refusals.Refusal.{Refusal}
use Rattle.prelude.specs.declared.refusals.Refused.{Refused}
use Rattle.prelude.specs.Refusals.{control, refused_at}
use Rattle.utf8.specs.Utf8.{char_len, char_at, valid_utf8}
use Rattle.notation.specs.Marks.{Opening, opens, unopened, opening}
use Rattle.strings.specs.Read.{StringRead, accepted, refused, read_string}

-- "Space, tab and CR"
unfoldable pub blank : ℕ → Bool
blank x = pick (eqb x space) true (pick (eqb x TAB) true (eqb x CR))

-- how many blanks stand first
unfoldable pub leads : List ℕ → ℕ
leads [] = 0
leads (x ∷ r) = pick (blank x) (suc (leads r)) 0

-- without the blanks at the end
abbrev pub keep : ℕ → List ℕ → List ℕ
keep x [] = pick (blank x) [] (x ∷ [])
keep x (y ∷ t) = x ∷ y ∷ t

unfoldable pub trimmed : List ℕ → List ℕ
trimmed [] = []
trimmed (x ∷ r) = keep x (trimmed r)

-- "are stripped at both ends"
unfoldable pub strip : List ℕ → List ℕ
strip s = trimmed (drop (leads s) s)

-- the refusal of a character as the check answers it, none where it is well-formed
abbrev pub bad_char : Result ℕ Refusal → Option Refusal
bad_char (Ok n) = None
bad_char (Err refusal) = Some refusal

-- "valid UTF-8, with no control but tab": the fault of the character c that x begins, none where it has none
unfoldable pub bare_fault : ℕ → Result ℕ Refusal → Option Refusal
bare_fault x c = pick (ltb x 0x20) (pick (eqb x TAB) None (Some control)) (bad_char c)

abbrev pub unless : ℕ → Option Refusal → Result ⊤ Refused → Result ⊤ Refused
unless p None go = go
unless p (Some refusal) go = Err (refused_at refusal p)

-- the characters of a bare text; p is the next one's place, and k bytes come before it
unfoldable pub bare_from : ℕ → ℕ → List ℕ → Result ⊤ Refused
bare_from p k [] = Ok tt
bare_from p zero (x ∷ r) =
    unless p (bare_fault x (char_at (x ∷ r))) (bare_from (p + char_len (x ∷ r)) (pred (char_len (x ∷ r))) r)
bare_from p (suc k) (x ∷ r) = bare_from p k r

unfoldable pub bare : List ℕ → Result ⊤ Refused
bare s = bare_from 0 0 s

-- what a line is: nothing, a string with its kind, or a refusal and its place
pub data LineRead : Type 0 where
  ignored : LineRead
  holds : ℕ → List ℕ → LineRead
  faulty : Refusal → ℕ → LineRead

-- "Kind 1 is valid UTF-8, kind 2 anything else, whatever the style was."
unfoldable pub kind_of : List ℕ → ℕ
kind_of bs = pick (valid_utf8 bs) 1 2

-- "it must be one J8 string and nothing more"
abbrev pub from_string : StringRead → LineRead
from_string (accepted bs e) = holds (kind_of bs) bs
from_string (refused refusal at) = faulty refusal at

-- "Otherwise it is bare"
abbrev pub from_bare : List ℕ → Result ⊤ Refused → LineRead
from_bare s (Ok u) = holds 1 s
from_bare s (Err f) = faulty f.refusal f.place

-- "If it begins with `"` `'` `u'` `b'`"
abbrev pub by_opening : List ℕ → Opening → LineRead
by_opening s (opens st n) = from_string (read_string s)
by_opening s unopened = from_bare s (bare s)

-- a line without blanks at its ends: "Nothing left: the line is ignored."
unfoldable pub read_stripped : List ℕ → LineRead
read_stripped [] = ignored
read_stripped (x ∷ r) = by_opening (x ∷ r) (opening (x ∷ r))

-- places are those of the line as received
abbrev pub shifted : ℕ → LineRead → LineRead
shifted n ignored = ignored
shifted n (holds k bs) = holds k bs
shifted n (faulty refusal at) = faulty refusal (n + at)

unfoldable pub read_line : List ℕ → LineRead
read_line s = shifted (leads s) (read_stripped (strip s))
