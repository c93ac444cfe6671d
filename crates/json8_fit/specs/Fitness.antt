-- Whether a table is fit to be written: "Refusal 1 unless" it means a tree.
-- Assumes nothing.
use Rattle.std.specs.Prelude.{Bool, true, false}
use Rattle.trees.specs.Tables.{Maybe, just, nothing}

-- a table is fit if it means a tree, and so are its parts if they mean something
abbrev pub is_fit : {A : Type 0} → Maybe A → Bool
is_fit (just a) = true
is_fit nothing = false
