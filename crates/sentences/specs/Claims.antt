-- What is claimed of the sentences: each claim is a type, and proofs/Claims.antt has a term of it.
-- Assumes nothing.
use Rattle.std.specs.Prelude.{ℕ, ◌≤◌, List, [], ◌∷◌, ◌≡◌, length}
use Rattle.prelude.specs.Refusals.{number_of, unfit, utf8_too_large}
use Rattle.sentences.specs.Sentences.{sentence}

-- the refusals have the numbers from 1 to 27 but 5, which 23 to 27 "replace .. everywhere"
abbrev pub IsRefusal : ℕ → Type 0
IsRefusal n = (number_of unfit ≤ n) × (n ≤ number_of utf8_too_large) × (n ≡ 5 → ⊥)

-- a sentence tells its refusal's number: no other number has it, be it a refusal's or not
abbrev pub SentencesTellNumbers : Type 0
SentencesTellNumbers = (m n : ℕ) → IsRefusal m → sentence m ≡ sentence n → m ≡ n

-- no byte is a control byte, so none ends a line
abbrev pub InOneLine : List ℕ → Type 0
InOneLine [] = Unit
InOneLine (x ∷ s) = (0x20 ≤ x) × InOneLine s

abbrev pub SentencesStayInLine : Type 0
SentencesStayInLine = (n : ℕ) → InOneLine (sentence n)

-- J8_SENTENCE_ROOM of j8.h
abbrev pub sentence_room : ℕ
sentence_room = 128

abbrev pub SentencesHaveRoom : Type 0
SentencesHaveRoom = (n : ℕ) → length (sentence n) ≤ sentence_room
