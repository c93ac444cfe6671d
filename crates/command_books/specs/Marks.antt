-- Byte order marks, which some editors put before a text: U+FEFF, in UTF-8 ef bb bf.
-- Assumes nothing.
use Rattle.std.specs.Prelude.{ℕ, Bool, false, List, ◌==◌, slice_index, Option, Some, None}
use Rattle.prelude.specs.Pick.{pick}

-- whether a text begins with one
unfoldable pub is_marked : List ℕ → Bool
is_marked s = pick (slice_index s 0 == 0xef) (pick (slice_index s 1 == 0xbb) (slice_index s 2 == 0xbf) false) false

-- the number n of a line that begins with one
unfoldable pub marked_line : List ℕ → ℕ → Option ℕ
marked_line line n = pick (is_marked line) (Some n) None
