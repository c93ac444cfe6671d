-- What the functions that put parts of a text promise: this speaks of the code alone, and no rule cites it.
-- Assumes nothing.
use Rattle.std.specs.Prelude.{ℕ, ◌+◌, ◌-◌, List, ◌≡◌, leb, ltb, length, take}
use Rattle.std.proofs.lemmas.List.Edits.{sets}
use Rattle.prelude.specs.Pick.{pick}

-- no buffer is longer
abbrev pub room_max : ℕ
room_max = 9223372036854775807

-- the place behind a text that is put at o, or one past the room where it doesn't fit; a place past the room stays
unfoldable pub behind : ℕ → ℕ → List ℕ → ℕ
behind room o text = pick (leb (o + length text) room) (o + length text) (pick (ltb room o) o (room + 1))

-- a part of the text, put at o as far as room and buffer reach: r is the place behind it
pub record Put (text : List ℕ) (room o r : ℕ) (out new : List ℕ) : Type 0 where
  pub answer : r ≡ behind room o text
  pub stored : new ≡ sets out o (take (room - o) text)
