-- The writer is lent the part from the place on (Puts).
use native.Mathlib.Omega.{arith}
use Rattle.sentences.specs.Sentences.{sentence}
use Rattle.command_texts.proofs.Puts.{left_out, written_put}
use Rattle.command_texts.proofs.put_sentence.Goals as goal

pub returns-then-out-at : goal.returns-then-out-at
returns-then-out-at c = left_out (sentence c.args.number) c.args.at c.args.out.now (omega (arith, c.if-out-at.true))

pub returns : goal.returns
returns c =
    written_put (sentence c.args.number) c.args.out.now c.args.at _ _ c.if-out-at.false c.write-written.ensures.answer c.write-written.ensures.stored _ c.behind.ensures
