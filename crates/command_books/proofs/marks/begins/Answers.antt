-- By the three bytes (Marked).
use Rattle.command_books.proofs.Marked.{other_first, other_second, third}
use Rattle.command_books.proofs.marks.begins.Goals as goal

pub returns-then-byte_at-ne239 : goal.returns-then-byte_at-ne239
returns-then-byte_at-ne239 c = other_first c.args.s.now c.byte_at.ensures c.if-byte_at-ne239.true

pub returns-then-byte_at-ne187 : goal.returns-then-byte_at-ne187
returns-then-byte_at-ne187 c = other_second c.args.s.now c.byte_at.ensures c.if-byte_at-ne239.false c.byte_at-2.ensures c.if-byte_at-ne187.true

pub returns : goal.returns
returns c = third c.args.s.now c.byte_at.ensures c.if-byte_at-ne239.false c.byte_at-2.ensures c.if-byte_at-ne187.false c.byte_at-3.ensures
