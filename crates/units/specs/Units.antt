-- One unit of a J8 string: "A unit is one well-formed UTF-8 character from 0x20 up (0x7f included) that isn't the closing quote
-- or a backslash, or one escape."
-- Assumes nothing.
use Rattle.std.specs.Prelude.{ℕ, List, [], ◌∷◌, ◌≡◌, ◌<◌, ltb, eqb, take, Option, Some, None, Result, Ok, Err}
use Rattle.prelude.specs.Bytes.{backslash}
use Rattle.prelude.specs.Pick.{pick}
use Rattle.prelude.specs.declared.refusals.Refusal.{Refusal}
use Rattle.prelude.specs.Refusals.{cut_off, control}
use Rattle.utf8.specs.Utf8.{char_at}
use Rattle.notation.specs.declared.styles.Style.{Style}
use Rattle.notation.specs.Styles.{quote, StringUnit, close, took, fault}
use Rattle.escapes.specs.Escapes.{escape}
use Rattle.units.specs.declared.single_escapes.Single.{Single}

-- a literal character stands for itself
abbrev pub literal : Result ℕ Refusal → List ℕ → StringUnit
literal (Ok n) s = took n (take n s)
literal (Err refusal) s = fault refusal

-- the unit at the head of the rest of a text; where the text ends, more is needed
unfoldable pub unit_at : Style → List ℕ → StringUnit
unit_at st [] = fault cut_off
unit_at st (x ∷ r) =
    pick (eqb x (quote st)) close
    (pick (eqb x backslash) (escape st r)
    (pick (ltb x 32) (fault control) (literal (char_at (x ∷ r)) (x ∷ r))))

-- the code's escape of one byte is this unit
abbrev pub Denotes : Option Single → StringUnit → Type 0
Denotes (Some one) u = (0 < one.len) × (u ≡ took one.len (one.byte ∷ []))
Denotes None u = Unit
