-- As in rewrite (Ends).
use Prim.Native.Nat.{ℕ}
use mathlib.Core.Path.{ap, ◌∙◌}
use Rattle.command_outputs.specs.Outcomes.{refused_at}
use Rattle.command_tables.proofs.Ends.{listed, unlisted}
use Rattle.command_tables.proofs.list.Goals as goal

pub returns-in-Ok : goal.returns-in-Ok
returns-in-Ok c =
    record { listed = listed c.args.text.now c.args.table.now c.args.store.now c.read.ensures.answer _ c.list_nodes.result c.in-Ok.is c.list_nodes.ensures; nodes = c.read.ensures.nodes; bytes = c.read.ensures.bytes }

pub returns-in-Err : goal.returns-in-Err
returns-in-Err c =
    record { listed = unlisted c.args.text.now c.args.table.now c.args.store.now c.read.ensures.answer _ c.refused_at.result c.in-Err.is (c.refused_at.ensures ∙ ap (λ (n : ℕ). refused_at c.args.text.now n c.in-Err.f.place) c.number.ensures); nodes = c.read.ensures.nodes; bytes = c.read.ensures.bytes }
