-- The reader's own steps, which no caller sees: a run of literal characters and one unit, at a place of the text.
-- Assumes nothing.
use Rattle.std.specs.Prelude.{ℕ, zero, suc, pred, ◌+◌, ◌≤◌, List, [], ◌∷◌, ◌++◌, ◌≡◌, length, get_or, take, drop, Result, Ok, Err}
use Rattle.std.proofs.lemmas.List.Edits.{sets}
use Rattle.prelude.specs.declared.refusals.Refused.{Refused}
use Rattle.prelude.specs.Refusals.{refused_at}
use Rattle.notation.specs.declared.styles.Style.{Style}
use Rattle.notation.specs.Styles.{quote, StringUnit, close, took, fault}
use Rattle.notation.specs.Literals.{literal_run}
use Rattle.units.specs.Units.{unit_at}
use Rattle.strings.specs.declared.read.Turned.{Turned}
use Rattle.strings.specs.declared.read.Turned.TheVariants.{On, Finish}
use Rattle.notation.specs.Marks.{Opening, opens, unopened, opening}
use Rattle.strings.specs.Read.{StringRead, more, read_units, nothing_behind, fitted}

-- a whole text whose opening mark is n bytes long, read into a room of so many bytes
abbrev pub read_behind : Style → ℕ → ℕ → List ℕ → StringRead
read_behind st n room s = fitted room (nothing_behind (length s) (read_units st n 0 (drop n s)))

-- behind a unit at the place `at`, with o bytes before it
abbrev pub unit_turn : StringUnit → ℕ → ℕ → Result Turned Refused
unit_turn close at o = Ok (Finish (at + 1) o)
unit_turn (took n bs) at o = Ok (On (at + n) (o + length bs))
unit_turn (fault refusal) at o = Err (refused_at refusal at)

abbrev pub unit_bytes : StringUnit → List ℕ
unit_bytes close = []
unit_bytes (took n bs) = bs
unit_bytes (fault refusal) = []

-- behind the run and the unit at the head of r, and the bytes that they denote
unfoldable pub turn_of : Style → List ℕ → ℕ → ℕ → Result Turned Refused
turn_of st r at o = unit_turn (unit_at st (drop (literal_run st 0 r) r)) (at + literal_run st 0 r) (o + literal_run st 0 r)

unfoldable pub turn_bytes : Style → List ℕ → List ℕ
turn_bytes st r = take (literal_run st 0 r) r ++ unit_bytes (unit_at st (drop (literal_run st 0 r) r))

-- the bytes of a unit, and of those behind it
abbrev pub unit_then : StringUnit → (ℕ → List ℕ) → List ℕ
unit_then close go = []
unit_then (took n bs) go = bs ++ go (pred n)
unit_then (fault refusal) go = []

-- the bytes of the units before the closing quote or the first fault: what a reader of units stores; k bytes come before the next unit
unfoldable pub units_bytes : Style → ℕ → List ℕ → List ℕ
units_bytes st k [] = []
units_bytes st zero (x ∷ r) = unit_then (unit_at st (x ∷ r)) (λ m. units_bytes st m r)
units_bytes st (suc k) (x ∷ r) = units_bytes st k r

-- the same behind an opening mark
abbrev pub bytes_from : Opening → List ℕ → List ℕ
bytes_from (opens st n) s = units_bytes st n s
bytes_from unopened s = []

unfoldable pub token_bytes : List ℕ → List ℕ
token_bytes s = bytes_from (opening s) s

-- the closing quote stands at a place and is the text's last byte
pub record Closed (st : Style) (s : List ℕ) (e : ℕ) : Type 0 where
  pub last : e + 1 ≡ length s
  pub ends : get_or s e 0 ≡ quote st

-- whole units were read from a place on up to another: their bytes are stored behind the first o, and the rest is still to be read
pub record Advanced (st : Style) (s : List ℕ) (from o : ℕ) (out : List ℕ) (at p : ℕ) (new : List ℕ) : Type 0 where
  pub bytes : List ℕ
  pub onward : from ≤ at
  pub inside : at ≤ length s
  pub less : p + from ≤ at + o
  pub count : p ≡ o + length bytes
  pub stored : new ≡ sets out o bytes
  pub same : read_units st from 0 (drop from s) ≡ more bytes (read_units st at 0 (drop at s))
  pub denoted : units_bytes st 0 (drop from s) ≡ bytes ++ units_bytes st 0 (drop at s)
