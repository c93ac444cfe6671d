-- Data that is one run needs no escape: its text is a quote, the data and a quote (Writing).
use native.Mathlib.Omega.{arith}
use Rattle.strings_write.proofs.Writing.{literal_full, literal_wrote}
use Rattle.strings_write.proofs.write.write_literal.Goals as goal

pub returns-then-out-n : goal.returns-then-out-n
returns-then-out-n c = let r = literal_full c.args.s.now c.args.out.now c.requires (omega arith) in record { answer = r.0; stored = r.1 }

pub returns : goal.returns
returns c =
    let r = literal_wrote c.args.s.now c.args.out.now c.requires (omega arith) c.put.ensures c.copy_long.ensures c.put-2.ensures in record { answer = r.0; stored = r.1 }
