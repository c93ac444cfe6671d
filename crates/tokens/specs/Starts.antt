-- What begins at a place, and the marks that stand between tokens.
-- Assumes nothing.
use Rattle.std.specs.Prelude.{ℕ, Bool, true, false, List, [], ◌∷◌, eqb}
use Rattle.prelude.specs.Pick.{pick}
use Rattle.prelude.specs.declared.refusals.Refusal.{Refusal}
use Rattle.prelude.specs.Refusals.{cut_off, misplaced}
use Rattle.notation.specs.Marks.{Opening, opens, unopened, opening}
use Rattle.tokens.specs.declared.starts.Start.{Start}
use Rattle.tokens.specs.declared.starts.Start.TheVariants.{Ended, String, Word, Number, List as ListStart, Dict, Nothing}
use Rattle.tokens.specs.Words.{is_letter, is_digit}
use Rattle.tokens.specs.Numbers.{minus}

-- RFC 8259, section 2: "begin-array = ws %x5B ws", "begin-object = ws %x7B ws", "end-array = ws %x5D ws", "end-object = ws %x7D ws",
-- "name-separator = ws %x3A ws", "value-separator = ws %x2C ws"
abbrev pub begin_array : ℕ
begin_array = 0x5b

abbrev pub begin_object : ℕ
begin_object = 0x7b

abbrev pub end_array : ℕ
end_array = 0x5d

abbrev pub end_object : ℕ
end_object = 0x7d

abbrev pub name_separator : ℕ
name_separator = 0x3a

abbrev pub value_separator : ℕ
value_separator = 0x2c

abbrev pub is_opening : Opening → Bool
is_opening (opens st n) = true
is_opening unopened = false

-- "exactly `u` or `b` directly before `'` opens a string"; "A number token starts with `-` or a digit"; "elsewhere a byte that starts
-- no token is 13"
unfoldable pub start_of : List ℕ → Start
start_of [] = Ended
start_of (x ∷ r) =
    pick (is_opening (opening (x ∷ r))) String
    (pick (is_letter x) Word
    (pick (is_digit x) Number
    (pick (eqb x minus) Number
    (pick (eqb x begin_array) ListStart
    (pick (eqb x begin_object) Dict Nothing)))))

-- what stands behind a key or a member: the closing bracket, a separator, or neither, with the refusal
pub data Behind : Type 0 where
  closes : Behind
  separates : Behind
  lacks : Refusal → Behind

-- the colon behind a key
unfoldable pub colon_at : List ℕ → Behind
colon_at [] = lacks cut_off
colon_at (x ∷ r) = pick (eqb x name_separator) separates (lacks misplaced)

-- behind a member, in a bracket that a given byte closes: a comma, or the end
unfoldable pub comma_at : ℕ → List ℕ → Behind
comma_at close [] = lacks cut_off
comma_at close (x ∷ r) = pick (eqb x close) closes (pick (eqb x value_separator) separates (lacks misplaced))
