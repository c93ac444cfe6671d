-- Choice by choice (Choices).
use Rattle.command_words.proofs.Choices.{long_size, long_ended, long_option, long_file}
use Rattle.command_words.proofs.arguments.with_long.Goals as goal

pub returns-then-o : goal.returns-then-o
returns-then-o c = long_size c.args.o c.args.i c.args.first c.if-o.true c.with_size.ensures

pub returns-then-o-2 : goal.returns-then-o-2
returns-then-o-2 c = long_ended c.args.o c.args.i c.args.first c.if-o.false c.if-o-2.true c.with_file.ensures

pub returns-then-first-eq45 : goal.returns-then-first-eq45
returns-then-first-eq45 c = long_option c.args.o c.args.i c.args.first c.if-o.false c.if-o-2.false c.if-first-eq45.true c.faulty.ensures

pub returns : goal.returns
returns c = long_file c.args.o c.args.i c.args.first c.if-o.false c.if-o-2.false c.if-first-eq45.false c.with_file-2.ensures
