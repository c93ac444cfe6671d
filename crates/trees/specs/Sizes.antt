-- How much room the nodes and the stored bytes of a tree take: "parents first, then children in order", and of strings "6 string with one
-- (decoded bytes appended to the store in order)".
-- Assumes nothing.
use Rattle.std.specs.Prelude.{ℕ, suc, ◌+◌, List, [], ◌∷◌, eqb, length}
use Rattle.prelude.specs.Pick.{pick}
use Rattle.strings_write.specs.Write.{write_string}
use Rattle.json8.specs.declared.nodes.Sort.{Sort}
use Rattle.json8.specs.declared.nodes.Sort.TheVariants.{Items, Pairs}
use Rattle.json8.specs.Nodes.{Node}
use Rattle.json8.specs.Leaves.{slashed}
use Rattle.trees.specs.Trees.{Label, Tree, null, bool, number, string, branch, Members, none, one}
use Rattle.trees.specs.Tables.{label_size}

unfoldable mutual
  -- the nodes of a tree, keys among them
  pub size_of : Tree → ℕ
  size_of null = 1
  size_of (bool b) = 1
  size_of (number w) = 1
  size_of (string bs) = 1
  size_of (branch b ms) = suc (sizes_of ms)

  pub sizes_of : {b : Sort} → Members b → ℕ
  sizes_of none = 0
  sizes_of {b} (one k t ms) = label_size b + size_of t + sizes_of ms

-- the bytes that a written string puts in the store: all where its text has a backslash, else none
unfoldable pub kept_of : List ℕ → ℕ
kept_of bs = pick (slashed (write_string bs)) (length bs) 0

abbrev pub label_kept : (b : Sort) → Label b → ℕ
label_kept Items k = 0
label_kept Pairs k = kept_of k

unfoldable mutual
  -- the bytes that a tree's own text puts in the store
  pub store_of : Tree → ℕ
  store_of null = 0
  store_of (bool b) = 0
  store_of (number w) = 0
  store_of (string bs) = kept_of bs
  store_of (branch b ms) = stores_of ms

  pub stores_of : {b : Sort} → Members b → ℕ
  stores_of none = 0
  stores_of {b} (one k t ms) = label_kept b k + store_of t + stores_of ms

-- the bytes that nodes have in the store: those of kind 6
unfoldable pub stored_bytes : List Node → ℕ
stored_bytes [] = 0
stored_bytes (v ∷ r) = pick (eqb v.kind 6) v.size 0 + stored_bytes r
