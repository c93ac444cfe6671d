-- The types of columns, "Bool, Int, Float or Str", and which bare texts fit them.
-- Assumes nothing.
use Rattle.std.specs.Prelude.{ℕ, zero, suc, Bool, true, ◌&&◌, List, [], ◌∷◌}
use Rattle.prelude.specs.Bytes.{ascii}
use Rattle.prelude.specs.Pick.{pick}
use Rattle.utf8.specs.Utf8.{positive}
use Rattle.lines.specs.Line.{strip}
use Rattle.tokens.specs.Words.{is_digit, same_bytes}
use Rattle.tokens.specs.Numbers.{number_kind}
pub use Rattle.tsv8_cells.specs.declared.columns.ColumnType.{ColumnType}
pub use Rattle.tsv8_cells.specs.declared.columns.ColumnType.TheVariants.{Bool as bools, Int as ints, Float as floats, Str as strs}
use Rattle.tsv8_cells.specs.Parts.{Part}

-- "(1 Bool, 2 Int, 3 Float, 4 Str)"
abbrev pub type_number : ColumnType → ℕ
type_number bools = 1
type_number ints = 2
type_number floats = 3
type_number strs = 4

abbrev pub type_word : ColumnType → List ℕ
type_word bools = ascii "Bool"
type_word ints = ascii "Int"
type_word floats = ascii "Float"
type_word strs = ascii "Str"

pub data Named : Type 0 where
  named : ColumnType → Named
  unnamed : Named

-- "one of the four words"
unfoldable pub type_named : List ℕ → Named
type_named w =
    pick (same_bytes w (type_word bools)) (named bools)
    (pick (same_bytes w (type_word ints)) (named ints)
    (pick (same_bytes w (type_word floats)) (named floats)
    (pick (same_bytes w (type_word strs)) (named strs) unnamed)))

-- the types of cells, or the place of the first that isn't one
pub data Types : Type 0 where
  types : List ColumnType → Types
  untyped : ℕ → Types

abbrev pub and_type : Named → ℕ → Types → Types
and_type (named t) p (types ts) = types (t ∷ ts)
and_type (named t) p (untyped q) = untyped q
and_type unnamed p rest = untyped p

-- "a type cell that stripped isn't one of the four words", "after its type's tab"
unfoldable pub types_in : List Part → Types
types_in [] = types []
types_in (c ∷ cs) = and_type (type_named (strip c.bytes)) c.place (types_in cs)

-- "untyped columns are Str", and "names are Str cells": of so many columns
unfoldable pub all_strs : ℕ → List ColumnType
all_strs zero = []
all_strs (suc n) = strs ∷ all_strs n

unfoldable pub all_digits : List ℕ → Bool
all_digits [] = true
all_digits (x ∷ r) = is_digit x && all_digits r

-- "Float (a JSON number)"
unfoldable pub is_float : List ℕ → Bool
is_float w = positive (number_kind w)

-- "Int (a JSON number of digits only)"
unfoldable pub is_int : List ℕ → Bool
is_int w = is_float w && all_digits w
