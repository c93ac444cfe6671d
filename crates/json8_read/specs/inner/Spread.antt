-- Notes read back: these speak of the code alone, and no rule cites them.
-- Assumes nothing.
use Rattle.std.specs.Prelude.{ℕ, ◌+◌, ◌*◌, ◌/◌, ◌%◌, ◌≤◌, List, [], ◌∷◌, eqb, length}
use Rattle.prelude.specs.Limits.{text_max}
use Rattle.prelude.specs.Pick.{pick}
use Rattle.json8.specs.Nodes.{Node, node}
use Rattle.json8_leaves.specs.inner.Told.{bytes_of, Sound, AllSound}

-- the node that a number notes
unfoldable pub node_of : ℕ → Node
node_of x = node (x % 65536 / 2048) (x % 2048) (x / 4294967296) (x / 65536 % 65536)

unfoldable pub nodes_in : List ℕ → List Node
nodes_in [] = []
nodes_in (x ∷ r) = node_of x ∷ nodes_in r

-- what escaped strings take of the store
unfoldable pub sizes : List Node → ℕ
sizes [] = 0
sizes (v ∷ r) = pick (eqb v.kind 6) (v.size + sizes r) (sizes r)

-- one node finds room behind i nodes and m bytes
pub record Fits (text : List ℕ) (v : Node) (i m : ℕ) (table store : List ℕ) : Type 0 where
  pub sound : Sound text v
  pub nodes : 4 * i + 4 ≤ length table
  pub bytes : m + length (bytes_of text (v ∷ [])) ≤ length store
  pub short : m + length (bytes_of text (v ∷ [])) ≤ text_max

-- all of them do
pub record AllFit (text : List ℕ) (vs : List Node) (table store : List ℕ) : Type 0 where
  pub sound : AllSound text vs
  pub nodes : 4 * length vs ≤ length table
  pub bytes : length (bytes_of text vs) ≤ length store
  pub short : length (bytes_of text vs) ≤ text_max
