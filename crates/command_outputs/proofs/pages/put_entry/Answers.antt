-- The writer is lent the part from the place on (Puts).
use native.Mathlib.Omega.{arith}
use Rattle.entries.specs.Entries.{entry_text}
use Rattle.command_texts.proofs.Puts.{left_out, written_put}
use Rattle.command_outputs.proofs.pages.put_entry.Goals as goal

pub returns-then-page-at : goal.returns-then-page-at
returns-then-page-at c = left_out (entry_text c.args.n c.args.s.now) c.args.at c.args.page.now (omega (arith, c.if-page-at.true))

pub returns : goal.returns
returns c =
    written_put (entry_text c.args.n c.args.s.now) c.args.page.now c.args.at _ _ c.if-page-at.false c.write-written.ensures.answer c.write-written.ensures.stored _ c.behind.ensures
