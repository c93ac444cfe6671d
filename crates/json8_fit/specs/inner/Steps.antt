-- What the functions of the code promise each other: these speak of the code alone, and no rule cites them.
-- Assumes nothing.
use Rattle.std.specs.Prelude.{ℕ, ◌+◌, ◌*◌, ◌/◌, ◌<◌, Bool, true, false, ◌&&◌, Option, Some, None, List, leb, eqb, length, get_or, drop}
use Rattle.json8.specs.declared.nodes.Sort.{Sort}
use Rattle.json8.specs.declared.nodes.Sort.TheVariants.{Items, Pairs}
use Rattle.prelude.specs.Pick.{pick}
use Rattle.json8.specs.Nodes.{Node, node}
use Rattle.trees.specs.Trees.{Label, Tree, null, bool, Members}
use Rattle.trees.specs.Tables.{Maybe, nodes_in, label_size, label_at, member_size, TreeReader, members_at, tree_at}
use Rattle.json8_fit.specs.Fitness.{is_fit}

-- the node of a number, and that it is in the table
abbrev pub node_at : ℕ → List ℕ → Node
node_at i table = node (get_or table (4 * i) 0) (get_or table (4 * i + 1) 0) (get_or table (4 * i + 2) 0) (get_or table (4 * i + 3) 0)

abbrev pub Inside : List ℕ → ℕ → Type 0
Inside table i = i < length table / 4

-- a list or a dict by its kind, or neither
unfoldable pub sort_of : ℕ → Option Sort
sort_of kind = pick (eqb kind 7) (Some Items) (pick (eqb kind 8) (Some Pairs) None)

-- what a text is as a number is of this kind
abbrev pub is_kind : ℕ → Option ℕ → Bool
is_kind kind (Some k) = eqb k kind
is_kind kind None = false

-- the value of a kind from 0 to 2
unfoldable pub word_of : ℕ → Tree
word_of kind = pick (eqb kind 0) null (pick (eqb kind 1) (bool false) (bool true))

-- so many members from node i on, which fill w nodes
abbrev pub within : (b : Sort) (table text store : List ℕ) (left members w i : ℕ) → Maybe (Members b)
within b table text store left members w i = members_at b (label_at b text store) (tree_at left text store) members w (drop i (nodes_in table))

-- the first member's nodes are among w, and it is fit
abbrev pub member_fit : (b : Sort) → (List Node → Maybe (Label b)) → TreeReader → ℕ → List Node → Bool
member_fit b label tree w r = leb (member_size b r) w && (is_fit (label r) && is_fit (tree (drop (label_size b) r)))
