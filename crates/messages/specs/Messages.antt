-- The lines that are said: a sentence behind what it is about, plain or as a JSON object.
-- Assumes nothing.
use Rattle.std.specs.Prelude.{ℕ, Bool, List, [], ◌++◌}
use Prim.Native.String.{String}
use Rattle.prelude.specs.Bytes.{ascii}
use Rattle.prelude.specs.Pick.{pick}
use Rattle.strings_write.specs.Write.{write_string}
use Rattle.messages.specs.declared.Head.{Head}
use Rattle.messages.specs.declared.Head.TheVariants.{Refused, Note}
use Rattle.messages.specs.declared.Spot.{Spot}
use Rattle.messages.specs.declared.Spot.TheVariants.{Line, Text, Quoted}
use Rattle.decimals.specs.Decimals.{decimal}

-- a number between words
abbrev pub counted : String → ℕ → String → List ℕ
counted before n behind = ascii before ++ (decimal n ++ ascii behind)

abbrev pub line_text : ℕ → List ℕ
line_text line = counted "line " line ", "

-- where the place is counted from
abbrev pub spot_text : Spot → List ℕ
spot_text (Line line) = line_text line
spot_text (Text line column) = line_text line ++ counted "column " column ", "
spot_text Quoted = []

-- what stands before a sentence: a refusal's number and place, or the command's name
unfoldable pub head_text : Head → List ℕ
head_text (Refused number spot place) = counted "refused " number " at " ++ (spot_text spot ++ counted "place " place ": ")
head_text Note = ascii "j8: "

-- a plain line
unfoldable pub message_text : Head → List ℕ → List ℕ
message_text head sentence = head_text head ++ (sentence ++ ascii "\n")

-- the same as fields of an object, null where nothing is known
abbrev pub spot_fields : Spot → List ℕ
spot_fields (Line line) = counted "\"line\":" line ",\"column\":null,"
spot_fields (Text line column) = counted "\"line\":" line "," ++ counted "\"column\":" column ","
spot_fields Quoted = ascii "\"line\":null,\"column\":null,"

unfoldable pub fields_text : Head → List ℕ
fields_text (Refused number spot place) = counted "{\"number\":" number "," ++ (spot_fields spot ++ counted "\"place\":" place ",")
fields_text Note = ascii "{\"number\":null,\"line\":null,\"column\":null,\"place\":null,"

-- a line that is a JSON object; a sentence that isn't UTF-8 is a string of JSON8 in it
unfoldable pub object_text : Head → List ℕ → List ℕ
object_text head sentence = fields_text head ++ (ascii "\"sentence\":" ++ (write_string sentence ++ ascii "}\n"))

-- what is printed for a head and its sentence
unfoldable pub said_text : Bool → Head → List ℕ → List ℕ
said_text json head sentence = pick json (object_text head sentence) (message_text head sentence)
