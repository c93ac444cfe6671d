-- Readers of what holds no other value: blanks, marks, strings, words and numbers.
-- "At one place 3 comes first, then 11, 13, 14, 15, 16, then the rest": a bad word or number goes before the count of nodes, and
-- that before any fault in a string.
-- Assumes nothing.
use Rattle.std.specs.Prelude.{ℕ, ◌+◌, ◌-◌, Bool, true, false, Option, Some, None, Result, Ok, Err, List, [], ◌∷◌, eqb, length, take}
use Rattle.prelude.specs.Pick.{pick}
use Rattle.prelude.specs.declared.refusals.Refused.{Refused}
use Rattle.prelude.specs.Refusals.{cut_off, misplaced, bad_number}
use Rattle.notation.specs.Marks.{Opening, opens, unopened, opening}
use Rattle.strings.specs.Read.{StringRead, accepted, refused as unread, read_token}
use Rattle.tokens.specs.declared.numbers.Number.{Number}
use Rattle.tokens.specs.declared.starts.Start.{Start}
use Rattle.tokens.specs.declared.starts.Start.TheVariants.{Ended, String as StringStart, Word as WordStart, Number as NumberStart, List as ListStart, Dict, Nothing}
use Rattle.tokens.specs.Starts.{Behind, closes, separates, lacks}
use Rattle.tokens.specs.Blanks.{blanks}
use Rattle.tokens.specs.Words.{word_of, word_value}
use Rattle.tokens.specs.Numbers.{number_at}
use Rattle.tokens.specs.Starts.{start_of, colon_at, comma_at}
use Rattle.json8.specs.Nodes.{node, Read, got, refused, Reader, limited}

-- whitespace and comments
abbrev pub passed : ℕ → Result ℕ Refused → Read
passed p (Ok n) = got n 0 [] []
passed p (Err f) = refused f.refusal (p + f.place)

unfoldable pub spaces : Reader
spaces p n m s = passed p (blanks s)

-- a mark; the tag is 1 for the closing bracket, 2 for a comma or a colon
abbrev pub marked : ℕ → Behind → Read
marked p closes = got 1 1 [] []
marked p separates = got 1 2 [] []
marked p (lacks refusal) = refused refusal p

unfoldable pub colon : Reader
colon p n m s = marked p (colon_at s)

unfoldable pub comma : ℕ → Reader
comma close p n m s = marked p (comma_at close s)

-- the length of the opening mark
abbrev pub mark_len : Opening → ℕ
mark_len (opens st n) = n
mark_len unopened = 0

unfoldable pub slashed : List ℕ → Bool
slashed [] = false
slashed (x ∷ r) = pick (eqb x 0x5c) true (slashed r)

-- "5 string without a backslash (its bytes in the text, marks left off .. too)", "6 string with one (decoded bytes appended to the store in
-- order)"; k is the length of the mark, e that of the token
unfoldable pub string_node : Bool → ℕ → ℕ → ℕ → ℕ → List ℕ → Read
string_node false p m k e bs = got e 0 (node 5 1 (p + k) (e - (k + 1)) ∷ []) []
string_node true p m k e bs = got e 0 (node 6 1 m (length bs) ∷ []) bs

abbrev pub string_read : ℕ → ℕ → List ℕ → StringRead → Read
string_read p m s (accepted bs e) = string_node (slashed (take e s)) p m (mark_len (opening s)) e bs
string_read p m s (unread refusal at) = refused refusal (p + at)

-- "A string token is read by the J8 rules on the text from its opening mark onward, and ends at its closing quote."
unfoldable pub string : Reader
string p n m s = string_read p m s (read_token s)

-- a token of so many bytes that is its own text: "for 0 to 4 they are the token's", and 5, "unquoted keys too"
unfoldable pub plain : ℕ → ℕ → Reader
plain kind len p n m s = got len 0 (node kind 1 p len ∷ []) []

abbrev pub word_read : Option ℕ → ℕ → Reader
word_read (Some kind) len = limited (plain kind len)
word_read None len = λ p n m s. refused misplaced p

unfoldable pub word : Reader
word p n m s = word_read (word_value (word_of s)) (length (word_of s)) p n m s

abbrev pub number_read : Option Number → Reader
number_read (Some v) = limited (plain v.kind v.len)
number_read None = λ p n m s. refused bad_number p

unfoldable pub number : Reader
number p n m s = number_read (number_at s) p n m s

-- "JSON, with J8 strings" and "unquoted keys `[a-zA-Z_][a-zA-Z0-9_]*`, `true` included"
abbrev pub key_by : Start → Reader
key_by Ended p n m s = refused cut_off p
key_by StringStart p n m s = limited string p n m s
key_by WordStart p n m s = limited (plain 5 (length (word_of s))) p n m s
key_by NumberStart p n m s = refused misplaced p
key_by ListStart p n m s = refused misplaced p
key_by Dict p n m s = refused misplaced p
key_by Nothing p n m s = refused misplaced p

unfoldable pub key : Reader
key p n m s = key_by (start_of s) p n m s
