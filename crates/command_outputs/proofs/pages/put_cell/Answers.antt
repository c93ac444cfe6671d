-- As in put_entry (Puts).
use native.Mathlib.Omega.{arith}
use Rattle.entries.specs.Entries.{cell_text}
use Rattle.command_texts.proofs.Puts.{left_out, written_put}
use Rattle.command_outputs.proofs.pages.put_cell.Goals as goal

pub returns-then-page-at : goal.returns-then-page-at
returns-then-page-at c = left_out (cell_text c.args.row c.args.name.now c.args.quoted c.args.value.now) c.args.at c.args.page.now (omega (arith, c.if-page-at.true))

pub returns : goal.returns
returns c =
    written_put (cell_text c.args.row c.args.name.now c.args.quoted c.args.value.now) c.args.page.now c.args.at _ _ c.if-page-at.false c.write_cell-written.ensures.answer c.write_cell-written.ensures.stored _ c.behind.ensures
