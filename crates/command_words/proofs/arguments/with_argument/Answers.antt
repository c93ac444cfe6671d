-- Choice by choice (Choices).
use Rattle.command_words.proofs.Choices.{argument_size, argument_file, argument_word}
use Rattle.command_words.proofs.arguments.with_argument.Goals as goal

pub returns-then-o : goal.returns-then-o
returns-then-o c = argument_size c.args.o c.args.i c.args.word.now c.args.known _ c.if-o.true c.size_of.ensures c.with_size.ensures

pub returns-then-o-2 : goal.returns-then-o-2
returns-then-o-2 c = argument_file c.args.o c.args.i c.args.word.now c.args.known c.if-o.false c.if-o-2.true c.with_file.ensures

pub returns : goal.returns
returns c = argument_word c.args.o c.args.i c.args.word.now c.args.known c.if-o.false c.if-o-2.false c.with_word.ensures
