-- As in put_sentence (Puts).
use native.Mathlib.Omega.{arith}
use lib.ListN.{take}
use Rattle.terminals.specs.Terminals.{safe_text}
use Rattle.command_texts.proofs.Puts.{left_out, written_put}
use Rattle.command_texts.proofs.put_shown.Goals as goal

pub returns-then-out-at : goal.returns-then-out-at
returns-then-out-at c = left_out (safe_text (take c.args.n c.args.text.now)) c.args.at c.args.out.now (omega (arith, c.if-out-at.true))

pub returns : goal.returns
returns c =
    written_put (safe_text (take c.args.n c.args.text.now)) c.args.out.now c.args.at _ _ c.if-out-at.false c.write-written.ensures.answer c.write-written.ensures.stored _ c.behind.ensures
