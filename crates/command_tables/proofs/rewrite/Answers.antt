-- By what the reader answers (Ends).
use lib.ListN.{length}
use Prim.Native.Nat.{ℕ}
use mathlib.Core.Path.{ap, ◌∙◌}
use Rattle.command_outputs.specs.Outcomes.{refused_at}
use Rattle.command_tables.proofs.Ends.{rewritten, unwritten_form}
use Rattle.command_tables.proofs.rewrite.Goals as goal

pub returns-in-Ok : goal.returns-in-Ok
returns-in-Ok c =
    record { rewritten = rewritten c.args.text.now c.args.table.now c.args.store.now c.read.ensures.answer (length c.args.page.now) _ c.print_table.result _ _ c.in-Ok.is c.read.ensures.nodes c.read.ensures.bytes c.print_table.ensures; nodes = c.read.ensures.nodes; bytes = c.read.ensures.bytes }

pub returns-in-Err : goal.returns-in-Err
returns-in-Err c =
    record { rewritten = unwritten_form c.args.text.now c.args.table.now c.args.store.now c.read.ensures.answer (length c.args.page.now) _ c.refused_at.result c.in-Err.is (c.refused_at.ensures ∙ ap (λ (n : ℕ). refused_at c.args.text.now n c.in-Err.f.place) c.number.ensures); nodes = c.read.ensures.nodes; bytes = c.read.ensures.bytes }
