-- What an object says, as a value of JSON8.
-- Assumes nothing.
use Rattle.std.specs.Prelude.{ℕ, List}
use Rattle.prelude.specs.Bytes.{ascii}
use Rattle.json8.specs.declared.nodes.Sort.TheVariants.{Pairs}
use Rattle.trees.specs.Trees.{Tree, null, number, string, branch, none, one}
use Rattle.messages.specs.declared.Head.{Head}
use Rattle.messages.specs.declared.Head.TheVariants.{Refused, Note}
use Rattle.messages.specs.declared.Spot.TheVariants.{Line, Text, Quoted}
use Rattle.decimals.specs.Decimals.{decimal}

-- a dict of five pairs
abbrev pub fields : Tree → Tree → Tree → Tree → Tree → Tree
fields n line column place sentence =
    branch Pairs
    (one (ascii "number") n
    (one (ascii "line") line
    (one (ascii "column") column
    (one (ascii "place") place
    (one (ascii "sentence") sentence none)))))

abbrev pub count : ℕ → Tree
count n = number (decimal n)

-- null where nothing is known
abbrev pub object_of : Head → List ℕ → Tree
object_of (Refused n (Line line) place) s = fields (count n) (count line) null (count place) (string s)
object_of (Refused n (Text line column) place) s = fields (count n) (count line) (count column) (count place) (string s)
object_of (Refused n Quoted place) s = fields (count n) null null (count place) (string s)
object_of Note s = fields null null null null (string s)
