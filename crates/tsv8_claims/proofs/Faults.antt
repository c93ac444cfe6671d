-- What is read of a stripped text has no more bytes than the text, and something stands there: by the string, or by the bare text itself.
-- Assumes nothing.
use Prim.Native.Nat.{ℕ, ◌≤◌, ◌<◌}
use mathlib.Core.List.{List, [], ◌∷◌}
use native.Mathlib.Omega.{arith}
use lib.ListN.{length}
use Rattle.std.specs.Prelude.{Result, Ok, Err}
use Rattle.prelude.specs.declared.refusals.Refused.{Refused}
use Rattle.notation.specs.Marks.{Opening, opens, unopened, opening}
use Rattle.strings.specs.Read.{StringRead, accepted, refused, read_string}
use Rattle.strings.proofs.Lengths.{Less, string_length}
use Rattle.strings.proofs.Places.{Inside, string_inside}
use Rattle.lines.specs.Line.{bare, LineRead, ignored, holds, faulty, from_string, from_bare, by_opening, read_stripped}

-- a text of m bytes
abbrev pub Judged : ℕ → LineRead → Type 0
Judged m ignored = Unit
Judged m (holds kind bs) = (0 < m) × (length bs ≤ m)
Judged m (faulty refusal at) = Unit

from_string_lem : (m : ℕ) (v : StringRead) → 0 < m → Less v → Inside 0 m v → Judged m (from_string v)
from_string_lem m (accepted bs e) h s i = (h, omega (arith, i.1))
from_string_lem m (refused refusal at) h s i = tt

from_bare_lem : (s : List ℕ) (v : Result (Unit {0}) Refused) → 0 < length s → Judged (length s) (from_bare s v)
from_bare_lem s (Ok x) h = (h, omega arith)
from_bare_lem s (Err f) h = tt

by_opening_lem : (s : List ℕ) (o : Opening) → 0 < length s → Judged (length s) (by_opening s o)
by_opening_lem s (opens st n) h = from_string_lem (length s) (read_string s) h (string_length s) (string_inside s)
by_opening_lem s unopened h = from_bare_lem s (bare s) h

pub judged : (s : List ℕ) → Judged (length s) (read_stripped s)
unfolding read_stripped
judged [] = tt
judged (x ∷ r) = by_opening_lem (x ∷ r) (opening (x ∷ r)) (omega arith)
