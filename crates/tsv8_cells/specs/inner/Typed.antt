-- The kinds of bare texts: this speaks of the code alone, and no rule cites it.
-- Assumes nothing.
use Rattle.std.specs.Prelude.{ℕ, List, Option, Some, None, ltb, eqb}
use Rattle.prelude.specs.Pick.{pick}
use Rattle.tokens.specs.Words.{same_bytes, false_word, true_word}
use Rattle.tsv8_cells.specs.Types.{ColumnType, bools, ints, floats, strs, is_int, is_float, Named, named, unnamed}

-- the type of a number, whatever that is
unfoldable pub type_by : ℕ → ColumnType
type_by x = pick (ltb 3 x) strs (pick (eqb x 1) bools (pick (eqb x 2) ints floats))

-- the type that a text names
abbrev pub type_of : Named → Option ColumnType
type_of (named t) = Some t
type_of unnamed = None

-- the kind of a text in a column of a type but Str; none where it is unfit
unfoldable pub bool_kind : List ℕ → Option ℕ
bool_kind w = pick (same_bytes w false_word) (Some 1) (pick (same_bytes w true_word) (Some 2) None)

abbrev pub typed_kind : ColumnType → List ℕ → Option ℕ
typed_kind bools w = bool_kind w
typed_kind ints w = pick (is_int w) (Some 3) None
typed_kind floats w = pick (is_float w) (Some 4) None
typed_kind strs w = None
