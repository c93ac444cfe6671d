-- Texts put behind one another in a buffer. One that doesn't fit whole is left out.
-- Assumes nothing.
use Rattle.std.specs.Prelude.{ℕ, ◌+◌, List, [], ◌≡◌, leb, ltb, length, Result, Ok, Err}
use Rattle.std.proofs.lemmas.List.Edits.{sets}
use Rattle.prelude.specs.Pick.{pick}
use Rattle.prelude.specs.declared.refusals.Refusal.{Refusal}
use Rattle.strings_write.specs.Write.{write_string}
use Rattle.terminals.specs.Terminals.{safe_text}
use Rattle.sentences.specs.inner.Lines.{from_line, first_line}

-- a text put whole at a place, or left out: r is the place behind it
pub record PutWhole (text : List ℕ) (at r : ℕ) (out new : List ℕ) : Type 0 where
  pub answer : r ≡ pick (leb (at + length text) (length out)) (at + length text) at
  pub stored : new ≡ pick (leb (at + length text) (length out)) (sets out at text) out

-- the place behind what was written from a place on, at most the end of a buffer of that size; a place past the end stays
unfoldable pub behind_written : Result ℕ Refusal → ℕ → ℕ → ℕ
behind_written (Ok n) at size = pick (leb (at + n) size) (at + n) (pick (ltb size at) at size)
behind_written (Err refusal) at size = at

-- bytes as a J8 string that can't drive a terminal; nothing where the string is longer than the room that it is made in
unfoldable pub quoted_in : ℕ → List ℕ → List ℕ
quoted_in room s = pick (leb (length (write_string s)) room) (safe_text (write_string s)) []

-- line n of a text, from 0, or nothing where it has no such line
abbrev pub line_in : List ℕ → ℕ → List ℕ
line_in s n = first_line (from_line [] s n)
