-- The opening mark of a J8 string.
-- Assumes nothing.
use Rattle.std.specs.Prelude.{ℕ, ◌&&◌, List, eqb, get_or, Option, Some, None}
use Prim.Native.Char.{code}
use Rattle.prelude.specs.Bytes.{double_quote, single_quote}
use Rattle.prelude.specs.Pick.{pick}
use Rattle.notation.specs.declared.styles.Style.{Style}
use Rattle.notation.specs.declared.styles.Style.TheVariants.{Json, Unicode, Bytes}
use Rattle.notation.specs.declared.marks.Mark.{Mark}

-- the style and the length of the opening mark
pub data Opening : Type 0 where
  opens : Style → ℕ → Opening
  unopened : Opening

-- `"` `'` `u'` `b'`
unfoldable pub opening : List ℕ → Opening
opening s =
    pick (eqb (get_or s 0 0) double_quote) (opens Json 1)
    (pick (eqb (get_or s 0 0) single_quote) (opens Unicode 1)
    (pick (eqb (get_or s 0 0) (code "u") && eqb (get_or s 1 0) single_quote) (opens Unicode 2)
    (pick (eqb (get_or s 0 0) (code "b") && eqb (get_or s 1 0) single_quote) (opens Bytes 2) unopened)))

-- the code's opening mark as the definition's
abbrev pub opening_of : Option Mark → Opening
opening_of (Some m) = opens m.style m.len
opening_of None = unopened
