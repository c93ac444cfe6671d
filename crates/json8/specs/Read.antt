-- Reading a whole JSON8 text to a node table.
-- Assumes nothing.
use Rattle.std.specs.Prelude.{ℕ, Result, Ok, Err, List, [], ◌∷◌, ◌++◌, ltb, length, drop}
use Rattle.prelude.specs.Limits.{depth_max, text_max}
use Rattle.prelude.specs.Pick.{pick}
use Rattle.prelude.specs.declared.refusals.Refused.{Refused}
use Rattle.prelude.specs.Refusals.{too_long, trailing, no_room, refused_at}
use Rattle.json8.specs.Nodes.{Read, got, refused, Reader, seq, flat}
use Rattle.json8.specs.Leaves.{spaces}
use Rattle.json8.specs.Values.{value}
use Rattle.json8.specs.declared.answers.Parsed.{Parsed}

-- "bytes .. after the JSON8 value other than whitespace and comments"
unfoldable pub text_end : Reader
text_end p n m [] = got 0 0 [] []
text_end p n m (x ∷ r) = refused trailing p

-- the leftmost fault, or what the text holds; brackets may stand "32 deep"
unfoldable pub read_all : List ℕ → Read
read_all s = seq spaces (seq (value depth_max) (seq spaces text_end)) 0 0 0 s

-- "all else is right, and the result is longer than the room": nodes in the table, bytes in the store
abbrev pub fitted : ℕ → ℕ → Read → Read
fitted nodes room (got l tag ns bs) =
    pick (ltb nodes (length ns)) (refused no_room 0) (pick (ltb room (length bs)) (refused no_room 0) (got l tag ns bs))
fitted nodes room (refused refusal at) = refused refusal at

-- a whole text, read into rooms for so many nodes and bytes: "2 on whole texts, then the leftmost fault in the text, then 12"
unfoldable pub read_of : ℕ → ℕ → List ℕ → Read
read_of nodes room s = pick (ltb text_max (length s)) (refused too_long 0) (fitted nodes room (read_all s))

-- so many nodes in the table, and so many bytes in the store
abbrev pub done : ℕ → ℕ → Result Parsed Refused
done nodes stored = Ok (record { nodes = nodes; stored = stored })

-- the code's answer: the nodes and the store's bytes, or the refusal
abbrev pub parsed_of : Read → Result Parsed Refused
parsed_of (got l tag ns bs) = done (length ns) (length bs)
parsed_of (refused refusal at) = Err (refused_at refusal at)

-- what the table and the store hold afterwards: "A refused .. JSON8 text .. leaves every lent byte and number unchanged."
abbrev pub table_after : Read → List ℕ → List ℕ
table_after (got l tag ns bs) t = flat ns ++ drop (length (flat ns)) t
table_after (refused refusal at) t = t

abbrev pub store_after : Read → List ℕ → List ℕ
store_after (got l tag ns bs) out = bs ++ drop (length bs) out
store_after (refused refusal at) out = out
