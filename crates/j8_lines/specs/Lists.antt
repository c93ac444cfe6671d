-- Lists of calls: what they leave, and what the J8 Lines definition gives for them.
-- Assumes nothing.
use Rattle.std.specs.Prelude.{ℕ, ◌-◌, Bool, true, false, List, [], ◌∷◌, ◌++◌, eqb, take, drop}
use Rattle.prelude.specs.Pick.{pick}
use Rattle.upload.specs.Calls.{Lent, lent, fresh, zeros, Called, feed, finish}
use Rattle.j8_lines.specs.Lines.{j8_lines, j8_answer}

pub data Call : Type 0 where
  feeds : List ℕ → Call
  finishes : Call

unfoldable pub call : Lent → Call → Called
call m (feeds piece) = feed m piece
call m finishes = finish m

-- "Each call gets the state that the last one returned and the same two buffers as that one left them": what a list of calls leaves, with
-- the last one's answer
unfoldable pub run : Called → List Call → Called
run r [] = r
run r (c ∷ cs) = run (call r.lent c) cs

-- before the first call: "It starts from a fresh state and two fit buffers."
abbrev pub began : List ℕ → List ℕ → Called
began line out = record { lent = lent fresh line out; answer = zeros }

-- "the joined text (all bytes fed before the first finish)"
unfoldable pub joined : List Call → List ℕ
joined [] = []
joined (feeds piece ∷ cs) = piece ++ joined cs
joined (finishes ∷ cs) = []

-- "whether a finish came"
unfoldable pub finished : List Call → Bool
finished [] = false
finished (feeds piece ∷ cs) = finished cs
finished (finishes ∷ cs) = true

-- "whether a finish came before it", the last call
unfoldable pub earlier : List Call → Bool
earlier [] = false
earlier (c ∷ []) = false
earlier (feeds piece ∷ (c ∷ cs)) = earlier (c ∷ cs)
earlier (finishes ∷ (c ∷ cs)) = true

-- what the J8 Lines definition gives for a list of calls: "For a call's answer it is given the same of the calls up to and with that one"
unfoldable pub defined : List Call → List ℕ → List ℕ → Called
defined cs line out =
    record {
      lent = j8_lines (joined cs) (finished cs) line out;
      answer = j8_answer (j8_lines (joined cs) (finished cs) line out).state (earlier cs);
    }

-- A list of calls in an encoded form, a text and a plan: 0 is a finish, and n + 1 feeds the next n bytes of the text, or what is left of it.
unfoldable pub decode : List ℕ → List ℕ → List Call
decode text [] = []
decode text (c ∷ cs) =
    pick (eqb c 0) (finishes ∷ decode text cs) (feeds (take (c - 1) text) ∷ decode (drop (c - 1) text) cs)
