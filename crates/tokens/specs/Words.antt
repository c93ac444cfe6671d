-- Words: "A word is the longest run of letters, digits and `_` starting with a letter or `_`".
-- Assumes nothing.
use Rattle.std.specs.Prelude.{ℕ, Bool, true, false, ◌&&◌, Option, Some, None, List, [], ◌∷◌, eqb}
use Rattle.prelude.specs.Bytes.{ascii}
use Rattle.prelude.specs.Pick.{pick}
use Rattle.utf8.specs.Utf8.{between}

-- `[a-zA-Z_]`
unfoldable pub is_letter : ℕ → Bool
is_letter x = pick (between 0x61 0x7a x) true (pick (between 0x41 0x5a x) true (eqb x 0x5f))

-- `[0-9]`
abbrev pub is_digit : ℕ → Bool
is_digit x = between 0x30 0x39 x

-- `[a-zA-Z0-9_]`
unfoldable pub is_word : ℕ → Bool
is_word x = pick (is_letter x) true (is_digit x)

-- "the longest run" of bytes that pass a test
unfoldable pub run_of : (ℕ → Bool) → List ℕ → List ℕ
run_of f [] = []
run_of f (x ∷ r) = pick (f x) (x ∷ run_of f r) []

-- the word that a text begins with
abbrev pub word_of : List ℕ → List ℕ
word_of s = run_of is_word s

unfoldable pub same_bytes : List ℕ → List ℕ → Bool
same_bytes [] [] = true
same_bytes [] (y ∷ t) = false
same_bytes (x ∷ s) [] = false
same_bytes (x ∷ s) (y ∷ t) = eqb x y && same_bytes s t

abbrev pub null_word : List ℕ
null_word = ascii "null"

abbrev pub false_word : List ℕ
false_word = ascii "false"

abbrev pub true_word : List ℕ
true_word = ascii "true"

-- "As a value it must be `null`, `false` or `true`", and its kind: "0 null, 1 false, 2 true"
unfoldable pub word_value : List ℕ → Option ℕ
word_value w = pick (same_bytes w null_word) (Some 0) (pick (same_bytes w false_word) (Some 1) (pick (same_bytes w true_word) (Some 2) None))
