-- A sentence fits in its room, so that it stands in front of the buffer, as long as the result says (Returned).
-- Assumes nothing.
use Prim.Native.Nat.{ℕ, ◌≤◌}
use mathlib.Core.List.{List}
use mathlib.Core.Path.{◌≡◌, sym, ◌∙◌}
use native.Mathlib.Omega.{arith}
use lib.ListN.{length}
use Rattle.sentences.specs.Sentences.{sentence}
use Rattle.sentences.specs.Claims.{IsRefusal, sentence_room}
use Rattle.sentences.proofs.Claims.{sentences_have_room, sentences_tell_numbers}
use Rattle.structs.specs.Results.{done}
use Rattle.j8.specs.Runs.{sentence_write}
use Rattle.j8_claims.specs.Claims.{told}
use Rattle.j8_claims.proofs.Returned.{front, write_done}

fits : (n : ℕ) (out : List ℕ) → sentence_room ≤ length out → length (sentence n) ≤ length out
fits n out h = omega (arith, h, sentences_have_room n)

pub sentence_done : (n : ℕ) (out : List ℕ) → sentence_room ≤ length out → (sentence_write n out).result ≡ done (length (sentence n))
sentence_done n out h = write_done (sentence n) (length out) (fits n out h)

sentence_told : (n : ℕ) (out : List ℕ) → sentence_room ≤ length out → told (sentence_write n out) ≡ sentence n
sentence_told n out h = rw (sentence_done n out h) (front (sentence n) out (fits n out h))

pub sentence_tells :
    (m n : ℕ) (out into : List ℕ) → IsRefusal m → sentence_room ≤ length out → sentence_room ≤ length into
    → told (sentence_write m out) ≡ told (sentence_write n into) → m ≡ n
sentence_tells m n out into r h k e = sentences_tell_numbers m n r (sym (sentence_told m out h) ∙ e ∙ sentence_told n into k)
