-- What the writer's passes promise each other: this speaks of the code alone, and no rule cites it.
-- Assumes nothing.
use Rattle.std.specs.Prelude.{ℕ, List, ◌≡◌, leb, length, take, Option, Some, None}
use Rattle.std.proofs.lemmas.List.Edits.{sets}
use Rattle.prelude.specs.Pick.{pick}

-- one pass over the data: the text's length, or none where it is longer than the room, and the text stored as far as room and buffer reach
pub record Passed (text : List ℕ) (room : ℕ) (r : Option ℕ) (out new : List ℕ) : Type 0 where
  pub answer : r ≡ pick (leb (length text) room) (Some (length text)) None
  pub stored : new ≡ sets out 0 (take room text)
