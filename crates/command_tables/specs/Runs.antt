-- How a run on a JSON8 text ends: all but whether the system takes what is printed.
-- Assumes nothing.
use Rattle.std.specs.Prelude.{ℕ, ◌/◌, ◌≤◌, ◌<◌, true, List, ◌≡◌, length, Result, Ok, Err}
use Rattle.prelude.specs.Limits.{text_max}
use Rattle.prelude.specs.declared.refusals.Refusal.{Refusal}
use Rattle.prelude.specs.Refusals.{number_of}
use Rattle.json8.specs.Nodes.{Read, got, refused}
use Rattle.json8.specs.Read.{read_of, table_after, store_after}
use Rattle.trees.specs.Tables.{nodes_in, tree_of}
use Rattle.json8_write.specs.Write.{wrote_tree}
use Rattle.command_outputs.specs.declared.outcomes.Outcome.{Outcome}
use Rattle.command_outputs.specs.declared.outcomes.Outcome.TheVariants.{Long}
use Rattle.command_outputs.specs.Outcomes.{refused_at, is_printed}

-- by what the reader says of the text: a refusal of it, or what holds of an accepted one
abbrev pub ByRead : List ℕ → Read → (Outcome → Type 0) → Outcome → Type 0
ByRead text (got l tag ns bs) Accepted o = Accepted o
ByRead text (refused refusal place) Accepted o = o ≡ refused_at text (number_of refusal) place

-- by what the writer says of the table: a form that couldn't be read back isn't printed
abbrev pub ByWritten : List ℕ → Result ℕ Refusal → Outcome → Type 0
ByWritten text (Ok n) o = (text_max < n → o ≡ Long n) × (n ≤ text_max → is_printed o ≡ true)
ByWritten text (Err refusal) o = o ≡ refused_at text (number_of refusal) 0

-- the strings of a text
abbrev pub Listed : List ℕ → List ℕ → List ℕ → Outcome → Type 0
Listed text table store o = ByRead text (read_of (length table / 4) (length store) text) (λ (x : Outcome). is_printed x ≡ true) o

-- the written form of a text, in a room
abbrev pub Rewritten : List ℕ → List ℕ → List ℕ → ℕ → Outcome → Type 0
Rewritten text table store room o =
    ByRead text (read_of (length table / 4) (length store) text)
    (ByWritten text
    (wrote_tree room
    (tree_of (nodes_in (table_after (read_of (length table / 4) (length store) text) table)) text (store_after (read_of (length table / 4) (length store) text) store))))
    o
