-- A node outside the table, or its numbers (Showing).
use Rattle.prelude.proofs.Picks.{picks}
use Rattle.json8_show.specs.Show.{shown_at}
use Rattle.json8_show.proofs.Showing.{node_shown}
use Rattle.json8_show.proofs.show.shown_at.Goals as goal

pub returns-then-table-node : goal.returns-then-table-node
unfolding shown_at
returns-then-table-node c = search picks

pub returns : goal.returns
returns c = search node_shown
