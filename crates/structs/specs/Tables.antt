-- JSON8's structs of include/j8.h.
-- Assumes nothing.
use Rattle.std.specs.Prelude.{ℕ, Option, Some, None, Result, Ok, Err}
use Rattle.prelude.specs.declared.refusals.Refused.{Refused}
use Rattle.prelude.specs.Refusals.{unfit, number_of}
use Rattle.json8_show.specs.declared.show.Shown.{Shown}
use Rattle.json8_show.specs.declared.show.Shown.TheVariants.{InText, InStore}
use Rattle.json8.specs.declared.answers.Parsed.{Parsed}
use Rattle.structs.specs.declared.tables.J8Nodes.{J8Nodes}
use Rattle.structs.specs.declared.tables.J8Shown.{J8Shown}

-- a refusal by its number, whatever that is
abbrev pub unread : ℕ → ℕ → J8Nodes
unread number place = record { number = number; place = place; nodes = 0; stored = 0 }

-- "number 0: done; place is 0, nodes is how many nodes the table holds, at least one, and stored how many bytes the store holds.
-- Otherwise number is the refusal and place its place; nodes and stored are 0."
abbrev pub nodes_result : Result Parsed Refused → J8Nodes
nodes_result (Ok r) = record { number = 0; place = 0; nodes = r.nodes; stored = r.stored }
nodes_result (Err f) = record { number = number_of f.refusal; place = f.place; nodes = 0; stored = 0 }

-- "number 0: its bytes are length bytes from place on, all of them inside: of the store if stored is 1, of the text if stored is 0.
-- number 1: there is nothing to show; stored, place and length are 0."
abbrev pub shown_result : Option Shown → J8Shown
shown_result (Some (InText place size)) = record { number = 0; stored = 0; place = place; length = size }
shown_result (Some (InStore place size)) = record { number = 0; stored = 1; place = place; length = size }
shown_result None = record { number = number_of unfit; stored = 0; place = 0; length = 0 }
