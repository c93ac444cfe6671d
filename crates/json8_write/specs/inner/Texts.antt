-- The texts that the functions of the code promise each other: these speak of the code alone, and no rule cites them.
-- Assumes nothing.
use Rattle.std.specs.Prelude.{ℕ, Bool, false, List, [], ◌++◌, drop}
use Rattle.json8.specs.declared.nodes.Sort.{Sort}
use Rattle.strings_write.specs.Write.{write_string}
use Rattle.json8.specs.Nodes.{Node}
use Rattle.trees.specs.Trees.{Label, Tree, Members, none, one, comma, render, render_label}
use Rattle.trees.specs.Tables.{Maybe, just, nothing, label_size, TreeReader}

-- the texts of what a table means; of an nothing one nothing is asked
abbrev pub tree_text : Maybe Tree → List ℕ
tree_text (just t) = render t
tree_text nothing = []

abbrev pub string_text : Maybe (List ℕ) → List ℕ
string_text (just bs) = write_string bs
string_text nothing = []

abbrev pub label_text : (b : Sort) → Maybe (Label b) → List ℕ
label_text b (just k) = render_label b k
label_text b nothing = []

-- members without their closing bracket
unfoldable pub render_body : {b : Sort} → Bool → Members b → List ℕ
render_body first none = []
render_body {b} first (one k t ms) = (comma first ++ (render_label b k ++ render t)) ++ render_body false ms

abbrev pub body_text : {b : Sort} → Bool → Maybe (Members b) → List ℕ
body_text first (just ms) = render_body first ms
body_text first nothing = []

-- a member's comma, key and value
abbrev pub member_text : (b : Sort) → (List Node → Maybe (Label b)) → TreeReader → Bool → List Node → List ℕ
member_text b label tree first r = comma first ++ (label_text b (label r) ++ tree_text (tree (drop (label_size b) r)))
