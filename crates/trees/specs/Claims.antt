-- What is claimed of tables, trees and texts: each claim is a type, and proofs/Claims.antt has a term of it.
-- Assumes nothing.
use Rattle.std.specs.Prelude.{ℕ, ◌/◌, ◌≤◌, true, false, List, [], ◌∷◌, ◌++◌, ◌≡◌, length, take, drop}
use Rattle.prelude.specs.Bytes.{IsBytes}
use Rattle.prelude.specs.Limits.{text_max, depth_max}
use Rattle.utf8.specs.Utf8.{valid_utf8}
use Rattle.notation.specs.declared.styles.Style.TheVariants.{Unicode}
use Rattle.notation.specs.Marks.{opens, opening}
use Rattle.tokens.specs.Words.{is_word}
use Rattle.tokens.specs.Numbers.{is_number}
use Rattle.json8.specs.Nodes.{Node, Read, got, refused}
use Rattle.json8.specs.Leaves.{string}
use Rattle.json8.specs.Values.{value}
use Rattle.json8.specs.Read.{read_all, read_of, done, parsed_of, table_after, store_after}
use Rattle.trees.specs.Trees.{Tree, render}
use Rattle.trees.specs.Tables.{Maybe, just, nothing, nodes_in, count_at, tree_of, string_of}
use Rattle.trees.specs.Sound.{Sound}
use Rattle.trees.specs.Sizes.{size_of, store_of, stored_bytes}
use Rattle.trees.specs.Rooms.{room_of}

-- what a table means whose numbers stand in a buffer
abbrev pub table_tree : List ℕ → List ℕ → List ℕ → Maybe Tree
table_tree table text store = tree_of (nodes_in table) text store

-- what a text means: the tree of the nodes that it is read to
abbrev pub tree_in : List ℕ → Read → Maybe Tree
tree_in s (got l tag ns bs) = tree_of ns s bs
tree_in s (refused refusal at) = nothing

abbrev pub text_tree : List ℕ → Maybe Tree
text_tree s = tree_in s (read_all s)

-- the nodes of an accepted text are one tree: subtrees nest exactly, the counts are true, and at most 32 brackets are open; the tree has
-- all nodes, and its strings have all bytes of the store
abbrev pub TablesNest : Type 0
TablesNest =
    (s : List ℕ) (l tag : ℕ) (ns : List Node) (bs : List ℕ) → read_all s ≡ got l tag ns bs
    → (t : Tree) × (tree_of ns s bs ≡ just t) × (length ns ≡ size_of t) × (length bs ≡ stored_bytes ns)

-- a text read into a table and a store is accepted with the tree's nodes and their bytes, and what the table and the store hold then
-- means this tree
pub record ReadAs (t : Tree) (s table store : List ℕ) : Type 0 where
  pub bytes : ℕ
  pub accepted : parsed_of (read_of (length table / 4) (length store) s) ≡ done (size_of t) bytes
  pub stored : bytes ≡ stored_bytes (take (size_of t) (nodes_in (table_after (read_of (length table / 4) (length store) s) table)))
  pub means :
      table_tree (table_after (read_of (length table / 4) (length store) s) table) s (store_after (read_of (length table / 4) (length store) s) store)
      ≡ just t

-- a tree's own text, read so
pub record WrittenAs (t : Tree) (table store : List ℕ) : Type 0 where
  pub read : ReadAs t (render t) table store
  pub bytes : read.bytes ≡ store_of t

-- Demand 2, of tables: "If the written text is at most 32,768 bytes, reading it, given room, gives the same tree of kinds (5 and 6 counted
-- alike), bytes and number texts." The room that is needed: the tree's nodes, and the bytes of the strings that are written with an escape
abbrev pub WrittenTableReadsBack : Type 0
WrittenTableReadsBack =
    (table text store : List ℕ) (t : Tree) → IsBytes text → IsBytes store → table_tree table text store ≡ just t
    → length (render t) ≤ text_max
    → (into stored : List ℕ) → size_of t ≤ length into / 4 → store_of t ≤ length stored → WrittenAs t into stored

-- what goes on neither a word nor a number
abbrev pub Stops : List ℕ → Type 0
Stops [] = Unit
Stops (x ∷ r) = (is_word x ≡ false) × (is_number x ≡ false)

-- a value read from the front of a text, and what its nodes mean
pub record FrontRead (t : Tree) (s : List ℕ) : Type 0 where
  pub nodes : List Node
  pub bytes : List ℕ
  pub read : value depth_max 0 0 0 s ≡ got (length (render t)) 0 nodes bytes
  pub means : tree_of nodes s bytes ≡ just t

-- the same without the cap, for every sound tree, with nothing behind it or a byte that goes on neither a word nor a number
abbrev pub WrittenTreeReadsBack : Type 0
WrittenTreeReadsBack = (t : Tree) (r : List ℕ) → Sound t → Stops r → FrontRead t (render t ++ r)

-- what the writer takes is sound, so it has a text that reads back
abbrev pub FitTablesAreSound : Type 0
FitTablesAreSound =
    (table text store : List ℕ) (t : Tree) → IsBytes text → IsBytes store → table_tree table text store ≡ just t → Sound t

-- what is read is fit to be written, and means what the text means, whatever the table and the store held before
abbrev pub ReadTableIsFit : Type 0
ReadTableIsFit =
    (s table store : List ℕ) (n m : ℕ) → parsed_of (read_of (length table / 4) (length store) s) ≡ done n m
    → (t : Tree) × (text_tree s ≡ just t) × ReadAs t s table store

-- so a backup that is read, written and read again is the same tree, where the written text is at most 32,768 bytes and there is room; and
-- so is its text, since a text is its tree's
abbrev pub RestoredIsTheSame : Type 0
RestoredIsTheSame =
    (s : List ℕ) (t : Tree) → IsBytes s → text_tree s ≡ just t → length (render t) ≤ text_max
    → (text_tree (render t) ≡ just t)
    × ((into stored : List ℕ) → size_of t ≤ length into / 4 → store_of t ≤ length stored → WrittenAs t into stored)

-- two trees with one text are one
abbrev pub RenderIsInjective : Type 0
RenderIsInjective = (t u : Tree) → Sound t → Sound u → render t ≡ render u → t ≡ u

-- a table's text is at most six bytes for each node and each byte of a string or number that it holds
abbrev pub WrittenTableLength : Type 0
WrittenTableLength =
    (r : List Node) (text store : List ℕ) (t : Tree) → tree_of r text store ≡ just t → length (render t) ≤ room_of (count_at r) r

-- "an accepted u'' string always gives valid UTF-8": as a JSON8 token, by the bytes that its node shows, wherever its decoded bytes stand
abbrev pub UnicodeStringsAreUtf8 : Type 0
UnicodeStringsAreUtf8 =
    (text before behind bs w : List ℕ) (p n k l tag : ℕ) (v : Node) → opening (drop p text) ≡ opens Unicode k
    → string p n (length before) (drop p text) ≡ got l tag (v ∷ []) bs → string_of text (before ++ (bs ++ behind)) v ≡ just w
    → valid_utf8 w ≡ true
