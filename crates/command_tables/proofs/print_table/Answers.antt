-- By what the writer answers (Ends).
use Prim.Native.Nat.{ℕ}
use mathlib.Core.Path.{sym, ap, ◌∙◌}
use Rattle.command_outputs.specs.Outcomes.{refused_at}
use Rattle.command_tables.proofs.Ends.{by_written}
use Rattle.command_tables.proofs.print_table.Goals as goal

pub returns-in-Ok : goal.returns-in-Ok
returns-in-Ok c = by_written c.args.text.now _ _ _ (sym c.in-Ok.is ∙ c.write.ensures.answer) c.print_written.ensures

pub returns-in-Err : goal.returns-in-Err
returns-in-Err c = by_written c.args.text.now _ _ _ (sym c.in-Err.is ∙ c.write.ensures.answer) (c.refused_at.ensures ∙ ap (λ (n : ℕ). refused_at c.args.text.now n 0) c.number.ensures)
