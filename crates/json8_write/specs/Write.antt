-- Writing a table: "Refusal 1 unless" it is fit, "then 12"; the text is that of the table's tree.
-- Assumes nothing.
use Rattle.std.specs.Prelude.{ℕ, Result, Ok, Err, List, leb, length}
use Rattle.prelude.specs.Pick.{pick}
use Rattle.prelude.specs.declared.refusals.Refusal.{Refusal}
use Rattle.prelude.specs.Refusals.{unfit, no_room}
use Rattle.strings_write.specs.Write.{wrote_into}
use Rattle.trees.specs.Trees.{Tree, render}
use Rattle.trees.specs.Tables.{Maybe, just, nothing}

-- the answer for what a table means, in a room
abbrev pub wrote_tree : ℕ → Maybe Tree → Result ℕ Refusal
wrote_tree room (just t) = pick (leb (length (render t)) room) (Ok (length (render t))) (Err no_room)
wrote_tree room nothing = Err unfit

-- what the buffer holds afterwards: the text in front of what was there, or all as it was
abbrev pub tree_into : Maybe Tree → List ℕ → List ℕ
tree_into (just t) out = wrote_into (render t) out
tree_into nothing out = out
