-- The tree that a table means, for any numbers, text and store; nothing where the table is nothing. "Refusal 1 unless: 1 to 1,024 nodes by
-- the root's count, all inside the table, kinds 0 to 8, one root holding all, subtrees nested exactly, counts true, depth at most 32, keys
-- of kind 5 or 6, string and number ranges inside their buffer, number texts legal for their kind; other places and lengths aren't looked
-- at."
-- Assumes nothing.
use Rattle.std.specs.Prelude.{ℕ, zero, suc, ◌+◌, ◌-◌, Bool, true, false, Option, Some, None, List, [], ◌∷◌, ltb, leb, eqb, length, take, drop}
use Rattle.prelude.specs.Pick.{pick}
use Rattle.tokens.specs.Numbers.{number_kind}
use Rattle.json8.specs.declared.nodes.Sort.{Sort}
use Rattle.json8.specs.declared.nodes.Sort.TheVariants.{Items, Pairs}
use Rattle.json8_show.specs.declared.show.Shown.{Shown}
use Rattle.json8_show.specs.declared.show.Shown.TheVariants.{InText, InStore}
use Rattle.json8.specs.Nodes.{Node, node}
use Rattle.prelude.specs.Limits.{node_max, depth_max}
use Rattle.json8_show.specs.Show.{shown_by}
use Rattle.trees.specs.Trees.{Label, Tree, null, bool, number, string, branch, Members, none, one}

-- something, or no meaning
pub data Maybe (A : Type 0) : Type 0 where
  just : A → Maybe A
  nothing : Maybe A

abbrev pub bind : {A B : Type 0} → Maybe A → (A → Maybe B) → Maybe B
bind (just a) f = f a
bind nothing f = nothing

abbrev pub need : {A : Type 0} → Bool → Maybe A → Maybe A
need b x = pick b x nothing

-- the table's nodes, "four 32-bit numbers a node"
unfoldable pub nodes_in : List ℕ → List Node
nodes_in [] = []
nodes_in (a ∷ []) = []
nodes_in (a ∷ b ∷ []) = []
nodes_in (a ∷ b ∷ c ∷ []) = []
nodes_in (a ∷ b ∷ c ∷ d ∷ r) = node a b c d ∷ nodes_in r

-- the count of the first node: "nodes in its subtree with itself"
abbrev pub count_at : List Node → ℕ
count_at [] = 0
count_at (v ∷ r) = v.count

-- "string .. ranges inside their buffer", as they are shown; none but kinds 5 and 6 have bytes
abbrev pub bytes_of : List ℕ → List ℕ → Option Shown → Maybe (List ℕ)
bytes_of text store (Some (InText place size)) = just (take size (drop place text))
bytes_of text store (Some (InStore place size)) = just (take size (drop place store))
bytes_of text store None = nothing

unfoldable pub string_of : List ℕ → List ℕ → Node → Maybe (List ℕ)
string_of text store v = bytes_of text store (shown_by v.kind v.place v.size (length text) (length store))

-- "number ranges inside their buffer, number texts legal for their kind"
abbrev pub legal_for : ℕ → List ℕ → Maybe Tree
legal_for kind w = need (eqb (number_kind w) kind) (just (number w))

unfoldable pub number_of : List ℕ → Node → Maybe Tree
number_of text v = need (leb (v.place + v.size) (length text)) (legal_for v.kind (take v.size (drop v.place text)))

-- kinds 0 to 6
unfoldable pub scalar_of : List ℕ → List ℕ → Node → Maybe Tree
scalar_of text store v =
    pick (eqb v.kind 0) (just null)
    (pick (eqb v.kind 1) (just (bool false))
    (pick (eqb v.kind 2) (just (bool true))
    (pick (eqb v.kind 3) (number_of text v)
    (pick (eqb v.kind 4) (number_of text v)
    (bind (string_of text store v) (λ bs. just (string bs)))))))

-- a node that holds no other counts itself alone
abbrev pub leaf_of : List ℕ → List ℕ → Node → Maybe Tree
leaf_of text store v = need (eqb v.count 1) (scalar_of text store v)

-- the nodes of what stands before a member's value
abbrev pub label_size : Sort → ℕ
label_size Items = 0
label_size Pairs = 1

-- "keys of kind 5 or 6"
unfoldable pub label_at : (b : Sort) → List ℕ → List ℕ → List Node → Maybe (Label b)
label_at Items text store r = just tt
label_at Pairs text store [] = nothing
label_at Pairs text store (v ∷ r) = need (eqb v.count 1) (string_of text store v)

-- the nodes of the first member, its key's among them
abbrev pub member_size : Sort → List Node → ℕ
member_size b r = label_size b + count_at (drop (label_size b) r)

-- a tree at the head of some nodes
abbrev pub TreeReader : Type 0
TreeReader = List Node → Maybe Tree

-- "subtrees nested exactly, counts true": c members that fill w nodes
unfoldable pub members_at : (b : Sort) → (List Node → Maybe (Label b)) → TreeReader → ℕ → ℕ → List Node → Maybe (Members b)
members_at b label tree zero w r = need (eqb w 0) (just none)
members_at b label tree (suc c) w r =
    need (leb (member_size b r) w)
    (bind (label r)
    (λ k. bind (tree (drop (label_size b) r))
    (λ t. bind (members_at b label tree c (w - member_size b r) (drop (member_size b r) r)) (λ ms. just (one k t ms)))))

-- a tree, where lists and dicts are given
unfoldable pub tree_from : (Sort → Node → List Node → Maybe Tree) → List ℕ → List ℕ → TreeReader
tree_from group text store [] = nothing
tree_from group text store (v ∷ r) =
    pick (eqb v.kind 7) (group Items v r) (pick (eqb v.kind 8) (group Pairs v r) (leaf_of text store v))

-- a list or a dict where so many brackets more may be open: "depth at most 32"
unfoldable pub grouped : ℕ → List ℕ → List ℕ → Sort → Node → List Node → Maybe Tree
grouped zero text store b v r = nothing
grouped (suc left) text store b v r =
    need (ltb 0 v.count)
    (bind (members_at b (label_at b text store) (tree_from (grouped left text store) text store) v.size (v.count - 1) r)
    (λ ms. just (branch b ms)))

abbrev pub tree_at : ℕ → List ℕ → List ℕ → TreeReader
tree_at left text store = tree_from (grouped left text store) text store

-- "1 to 1,024 nodes by the root's count, all inside the table"; no tree has 0
unfoldable pub tree_of : List Node → List ℕ → List ℕ → Maybe Tree
tree_of r text store = need (leb (count_at r) node_max) (need (leb (count_at r) (length r)) (tree_at depth_max text store r))
