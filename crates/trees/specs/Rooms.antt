-- Room that is enough for the text of a table, told by its nodes alone: six bytes for each node, and six for each byte of a string or number.
-- Assumes nothing.
use Rattle.std.specs.Prelude.{ℕ, zero, suc, ◌+◌, ◌*◌, List, [], ◌∷◌, ltb, leb}
use Rattle.prelude.specs.Pick.{pick}
use Rattle.json8.specs.Nodes.{Node}

-- kinds 3 to 6 have bytes
unfoldable pub bytes_held : Node → ℕ
bytes_held v = pick (ltb v.kind 3) 0 (pick (leb v.kind 6) v.size 0)

-- of so many nodes
unfoldable pub room_of : ℕ → List Node → ℕ
room_of zero r = 0
room_of (suc c) [] = 0
room_of (suc c) (v ∷ r) = 6 * (1 + bytes_held v) + room_of c r
