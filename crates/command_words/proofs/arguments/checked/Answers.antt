-- Choice by choice (Choices).
use Rattle.command_words.proofs.Choices.{checked_size, checked_other, checked_line, checked_both}
use Rattle.command_words.proofs.arguments.checked.Goals as goal

pub returns-then-o : goal.returns-then-o
returns-then-o c = checked_size c.args.o c.if-o.true c.faulty.ensures

pub returns-then-o-eq0 : goal.returns-then-o-eq0
returns-then-o-eq0 c = checked_other c.args.o c.if-o.false c.if-o-eq0.true

pub returns-then-o-eq0-2 : goal.returns-then-o-eq0-2
returns-then-o-eq0-2 c = checked_line c.args.o c.if-o.false c.if-o-eq0.false c.if-o-eq0-2.true

pub returns : goal.returns
returns c = checked_both c.args.o c.if-o.false c.if-o-eq0.false c.if-o-eq0-2.false c.faulty-2.ensures
