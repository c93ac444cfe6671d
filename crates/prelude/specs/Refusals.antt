-- The refusals of document 01, each with its row of the table, those of document 02, each with its words, and their numbers.
-- Assumes nothing.
use Rattle.std.specs.Prelude.{ℕ, ◌≤◌, ◌⊎◌, ◌≡◌}
use Rattle.prelude.specs.declared.refusals.Refusal.{Refusal}
use Rattle.prelude.specs.declared.refusals.Refusal.TheVariants.{Unfit, TooLong, NoOpening, CutOff, Control, BadEscape, Surrogate, TooLarge, ByteEscape, Trailing, NoRoom, Misplaced, BadNumber, TooDeep, TooMany, OverLimit, Ended, BadHeader, BadLine, WrongType, EmptyCell, Utf8BadEncoding, Utf8Incomplete, Utf8Overlong, Utf8Surrogate, Utf8TooLarge}
use Rattle.prelude.specs.declared.refusals.Refused.{Refused}

-- "a lent buffer, table or state is unfit"
abbrev pub unfit : Refusal
unfit = Unfit

-- "string or JSON8 text over 32,768 bytes .., or a line over 1,024"
abbrev pub too_long : Refusal
too_long = TooLong

-- "a string text doesn't begin with `"` `'` `u'` `b'`"
abbrev pub no_opening : Refusal
no_opening = NoOpening

-- "the text ends where more is needed"
abbrev pub cut_off : Refusal
cut_off = CutOff

-- "literal control byte, below 0x20"
abbrev pub control : Refusal
control = Control

-- "escape unknown, cut off or malformed"
abbrev pub bad_escape : Refusal
bad_escape = BadEscape

-- "single-quoted `\u{h}` of one to six digits, from d800 to dfff"
abbrev pub surrogate : Refusal
surrogate = Surrogate

-- "single-quoted `\u{h}` of one to six digits, above 10ffff"
abbrev pub too_large : Refusal
too_large = TooLarge

-- "`\y` in `u''` or `''`, whatever follows it"
abbrev pub byte_escape : Refusal
byte_escape = ByteEscape

-- "bytes after the closing quote, or after the JSON8 value other than whitespace and comments"
abbrev pub trailing : Refusal
trailing = Trailing

-- "all else is right, and the result is longer than the room"
abbrev pub no_room : Refusal
no_room = NoRoom

-- "JSON8: this can't stand here"
abbrev pub misplaced : Refusal
misplaced = Misplaced

-- "JSON8: malformed number"
abbrev pub bad_number : Refusal
bad_number = BadNumber

-- "JSON8: a 33rd open bracket"
abbrev pub too_deep : Refusal
too_deep = TooDeep

-- "JSON8: a 1,025th node"
abbrev pub too_many : Refusal
too_many = TooMany

-- "upload: byte 1,048,577"
abbrev pub over_limit : Refusal
over_limit = OverLimit

-- "upload already ended"
abbrev pub ended : Refusal
ended = Ended

-- "first line missing or not `!tsv8` with 1 to 64 cells after it, a type cell that stripped isn't one of the four words .., or a `!type`
-- that isn't second"
abbrev pub bad_header : Refusal
bad_header = BadHeader

-- "wrong cell count, or a line after the first that begins with neither tab nor `!`, or a `!` line after data"
abbrev pub bad_line : Refusal
bad_line = BadLine

-- "cell unfit for its type"
abbrev pub wrong_type : Refusal
wrong_type = WrongType

-- "cell stripped to nothing"
abbrev pub empty_cell : Refusal
empty_cell = EmptyCell

-- request [2]: "23 bad encoding, 24 incomplete, 25 overlong, 26 surrogate, 27 too large replace 5 everywhere"
abbrev pub utf8_bad_encoding : Refusal
utf8_bad_encoding = Utf8BadEncoding

abbrev pub utf8_incomplete : Refusal
utf8_incomplete = Utf8Incomplete

abbrev pub utf8_overlong : Refusal
utf8_overlong = Utf8Overlong

abbrev pub utf8_surrogate : Refusal
utf8_surrogate = Utf8Surrogate

abbrev pub utf8_too_large : Refusal
utf8_too_large = Utf8TooLarge

-- each one's number, its row's
abbrev pub number_of : Refusal → ℕ
number_of Unfit = 1
number_of TooLong = 2
number_of NoOpening = 3
number_of CutOff = 4
number_of Control = 6
number_of BadEscape = 7
number_of Surrogate = 8
number_of TooLarge = 9
number_of ByteEscape = 10
number_of Trailing = 11
number_of NoRoom = 12
number_of Misplaced = 13
number_of BadNumber = 14
number_of TooDeep = 15
number_of TooMany = 16
number_of OverLimit = 17
number_of Ended = 18
number_of BadHeader = 19
number_of BadLine = 20
number_of WrongType = 21
number_of EmptyCell = 22
number_of Utf8BadEncoding = 23
number_of Utf8Incomplete = 24
number_of Utf8Overlong = 25
number_of Utf8Surrogate = 26
number_of Utf8TooLarge = 27

-- a refusal and its place
abbrev pub refused_at : Refusal → ℕ → Refused
refused_at refusal place = record { refusal = refusal; place = place }

-- one of those whose numbers go from one refusal's to another's
abbrev pub FromTo : Refusal → Refusal → Refusal → Type 0
FromTo low high r = (number_of low ≤ number_of r) × (number_of r ≤ number_of high)

-- what a unit of a string or a character of a bare text is refused for: 6 to 10, and where 5 stood 23 to 27
abbrev pub UnitFault : Refusal → Type 0
UnitFault r = FromTo control byte_escape r ⊎ FromTo utf8_bad_encoding utf8_too_large r

-- what a string behind its opening mark, or a bare text, is refused for: a unit, the text's end or what stands behind the string
abbrev pub TextFault : Refusal → Type 0
TextFault r = (r ≡ cut_off) ⊎ ((r ≡ trailing) ⊎ UnitFault r)
