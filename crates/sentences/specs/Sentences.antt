-- A plain sentence for each refusal number.
-- Assumes nothing.
use Rattle.std.specs.Prelude.{ℕ, List, [], ◌∷◌, eqb}
use Prim.Native.String.{String}
use Rattle.prelude.specs.Bytes.{ascii}
use Rattle.prelude.specs.Pick.{pick}
use Rattle.prelude.specs.declared.refusals.Refusal.{Refusal}
use Rattle.prelude.specs.Refusals.{number_of, unfit, too_long, no_opening, cut_off, control, bad_escape, surrogate, too_large, byte_escape, trailing, no_room, misplaced, bad_number, too_deep, too_many, over_limit, ended, bad_header, bad_line, wrong_type, empty_cell, utf8_bad_encoding, utf8_incomplete, utf8_overlong, utf8_surrogate, utf8_too_large}

-- a refusal's number, and what it says to someone who doesn't know the numbers
pub record Row : Type 0 where
  pub number : ℕ
  pub says : String

abbrev pub row : Refusal → String → Row
row refusal s = record { number = number_of refusal; says = s }

abbrev pub rows : List Row
rows =
    row unfit "what was lent for this is unfit"
    ∷ row too_long "too long: a line may have 1,024 bytes, a string, JSON8 or TSV8 text 32,768"
    ∷ row no_opening "a J8 string begins with \" or ' or u' or b'"
    ∷ row cut_off "the text ends here, and more is needed: it may be cut off"
    ∷ row control "a control byte can't stand here as it is: it has to be escaped"
    ∷ row bad_escape "no such escape, or it isn't whole"
    ∷ row surrogate "\\u{d800} to \\u{dfff} are no characters"
    ∷ row too_large "no character is above \\u{10ffff}"
    ∷ row byte_escape "\\y can stand in b'' only"
    ∷ row trailing "there is more behind the end of the string or value"
    ∷ row no_room "the result is longer than the room for it"
    ∷ row misplaced "this can't stand here"
    ∷ row bad_number "not a number as JSON has it"
    ∷ row too_deep "more than 32 brackets are open"
    ∷ row too_many "more than 1,024 values and keys"
    ∷ row over_limit "the backup is longer than 1,048,576 bytes"
    ∷ row ended "the upload has ended already"
    ∷ row bad_header "a TSV8 table begins with !tsv8 and 1 to 64 names; !type may follow, with Bool, Int, Float or Str for each"
    ∷ row bad_line "this line can't stand here, or doesn't have one cell for each column"
    ∷ row wrong_type "this cell doesn't fit the type of its column"
    ∷ row empty_cell "this cell is empty: an empty string is written as \"\""
    ∷ row utf8_bad_encoding "no UTF-8 character begins with this byte; only b'' can hold it, written as \\yhh"
    ∷ row utf8_incomplete "this UTF-8 character isn't whole: it is cut off, or in another encoding; only b'' can hold it, written as \\yhh"
    ∷ row utf8_overlong "overlong: UTF-8 writes this character with fewer bytes; only b'' can hold it, written as \\yhh"
    ∷ row utf8_surrogate "this is half of a surrogate pair, which UTF-8 never has; only b'' can hold it, written as \\yhh"
    ∷ row utf8_too_large "this UTF-8 form is of a number above 10ffff, which no character has; only b'' can hold it, written as \\yhh"
    ∷ []

-- for a number that no refusal has
abbrev pub unknown : String
unknown = "no refusal has this number"

unfoldable pub sentence_in : List Row → ℕ → List ℕ
sentence_in [] n = ascii unknown
sentence_in (r ∷ rs) n = pick (eqb n r.number) (ascii r.says) (sentence_in rs n)

abbrev pub sentence : ℕ → List ℕ
sentence n = sentence_in rows n
