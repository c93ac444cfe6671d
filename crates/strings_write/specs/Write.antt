-- Writing a J8 string: "one form for each byte string".
-- Assumes nothing.
use Rattle.std.specs.Prelude.{ℕ, zero, suc, pred, List, [], ◌∷◌, ◌++◌, leb, length, drop, Result, Ok, Err}
use Prim.Native.Char.{code}
use Rattle.prelude.specs.Bytes.{double_quote, single_quote}
use Rattle.prelude.specs.Pick.{pick}
use Rattle.prelude.specs.declared.refusals.Refusal.{Refusal}
use Rattle.prelude.specs.Refusals.{no_room}
use Rattle.utf8.specs.Utf8.{char_len, valid_utf8}
use Rattle.notation.specs.declared.styles.Form.{Form}
use Rattle.notation.specs.declared.styles.Form.TheVariants.{AsJson, AsBytes}
use Rattle.notation.specs.Styles.{quote, style_of}
use Rattle.units.specs.Written.{written}

-- the units of a byte string; k bytes are skipped
unfoldable pub write_units : Form → ℕ → List ℕ → List ℕ
write_units form k [] = []
write_units form zero (x ∷ r) = written form (char_len (x ∷ r)) x r ++ write_units form (pred (char_len (x ∷ r))) r
write_units form (suc k) (x ∷ r) = write_units form k r

-- the mark that the writer puts before a form's units
abbrev pub mark : Form → List ℕ
mark AsJson = double_quote ∷ []
mark AsBytes = code "b" ∷ single_quote ∷ []

-- the text of a byte string in a form
unfoldable pub quoted : Form → List ℕ → List ℕ
quoted form s = mark form ++ (write_units form 0 s ++ (quote (style_of form) ∷ []))

-- "Anything else goes as `b''`"; the form by itself
abbrev pub write_bytes : List ℕ → List ℕ
write_bytes s = quoted AsBytes s

-- "valid UTF-8 goes as `""`"
unfoldable pub write_string : List ℕ → List ℕ
write_string s = pick (valid_utf8 s) (quoted AsJson s) (write_bytes s)

-- the answer for a text in a room: "Writing refuses only with 12"
unfoldable pub written_in : ℕ → List ℕ → Result ℕ Refusal
written_in room text = pick (leb (length text) room) (Ok (length text)) (Err no_room)

-- what a buffer holds afterwards: the text in front of what was there, or all as it was
unfoldable pub wrote_into : List ℕ → List ℕ → List ℕ
wrote_into text out = pick (leb (length text) (length out)) (text ++ drop (length text) out) out
