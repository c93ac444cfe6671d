-- Each claim of specs/Claims.antt, by the laws of its topic; the tests of the rows are computed.
-- Assumes nothing.
use Prim.Native.Nat.{ℕ}
use mathlib.Core.Bool.{Bool, true}
use mathlib.Core.Path.{◌≡◌, refl}
use native.Mathlib.Omega.{arith}
use borrow.Author.Tests.{ne_eqb}
use lib.Dec.{eqb}
use Rattle.prelude.proofs.Tables.{at_below}
use Rattle.prelude.specs.Pick.{pick}
use Rattle.sentences.specs.Sentences.{rows}
use Rattle.sentences.specs.Claims.{sentence_room, SentencesTellNumbers, SentencesStayInLine, SentencesHaveRoom}
use Rattle.sentences.proofs.Apart.{plain_sentence, short_sentence, has, sentence_tells}

-- a row stands for each number but 0 and 5
abbrev listed : ℕ → Bool
listed n = pick (eqb n 0) true (pick (eqb n 5) true (has n rows))

pub sentences_tell_numbers : SentencesTellNumbers
unfolding pick
sentences_tell_numbers m n h w =
    let l : listed m ≡ true = at_below listed 28 refl m (omega (arith, h.1)) in
    sentence_tells rows refl m n (rw (ne_eqb m 0 (λ z. omega (arith, h.0, z)), ne_eqb m 5 h.2) at l) w

pub sentences_stay_in_line : SentencesStayInLine
sentences_stay_in_line n = plain_sentence rows refl n

pub sentences_have_room : SentencesHaveRoom
sentences_have_room n = short_sentence sentence_room rows refl n
