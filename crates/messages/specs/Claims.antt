-- What is claimed of the lines that are said: each claim is a type, and proofs/Claims.antt has a term of it.
-- Assumes nothing.
use Rattle.std.specs.Prelude.{ℕ, Bool, true, List, [], ◌∷◌, ◌++◌, ◌≡◌, eqb, leb}
use Rattle.prelude.specs.Pick.{pick}
use Rattle.sentences.specs.Sentences.{sentence}
use Rattle.sentences.specs.Claims.{InOneLine}
use Rattle.trees.specs.Trees.{render}
use Rattle.messages.specs.declared.Head.{Head}
use Rattle.prelude.specs.Bytes.{ascii, LF}
use Rattle.messages.specs.Messages.{message_text, object_text, said_text}
use Rattle.messages.specs.Objects.{object_of}

-- a byte that can stand inside a line: a tab, or no control byte
unfoldable pub in_line : ℕ → Bool
in_line x = pick (eqb x 9) true (leb 0x20 x)

-- one line and nothing more: LF is its last byte, and no other is one
abbrev pub OneLine : List ℕ → Type 0
OneLine [] = ⊥
OneLine (x ∷ []) = x ≡ LF
OneLine (x ∷ y ∷ r) = (in_line x ≡ true) × OneLine (y ∷ r)

-- so scripts can go by lines, whatever bytes a sentence has
abbrev pub ObjectsAreLines : Type 0
ObjectsAreLines = (head : Head) (s : List ℕ) → OneLine (object_text head s)

-- and what JSON8's writer has for a dict of five pairs, so that it can be read again
abbrev pub ObjectsAreJson8 : Type 0
ObjectsAreJson8 = (head : Head) (s : List ℕ) → object_text head s ≡ render (object_of head s) ++ ascii "\n"

-- a plain line has its sentence as it is, so that must have no control byte
abbrev pub MessagesAreLines : Type 0
MessagesAreLines = (head : Head) (s : List ℕ) → InOneLine s → OneLine (message_text head s)

-- which no refusal's sentence has
abbrev pub RefusalsAreLines : Type 0
RefusalsAreLines = (json : Bool) (head : Head) (n : ℕ) → OneLine (said_text json head (sentence n))
