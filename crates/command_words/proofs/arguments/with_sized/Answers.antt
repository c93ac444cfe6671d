-- Choice by choice (Choices).
use Rattle.command_words.proofs.Choices.{sized_unknown, sized_short, sized_there}
use Rattle.command_words.proofs.arguments.with_sized.Goals as goal

pub returns-then-known-eq0 : goal.returns-then-known-eq0
returns-then-known-eq0 c = sized_unknown c.args.o c.args.i c.args.word.now c.args.known c.if-known-eq0.true c.faulty.ensures

pub returns-then-word-lt-SIZE_AT : goal.returns-then-word-lt-SIZE_AT
returns-then-word-lt-SIZE_AT c = sized_short c.args.o c.args.i c.args.word.now c.args.known c.if-known-eq0.false c.if-word-lt-SIZE_AT.true c.faulty-then-word-lt-SIZE_AT.ensures

pub returns : goal.returns
returns c = sized_there c.args.o c.args.i c.args.word.now c.args.known c.if-known-eq0.false _ c.size_of.ensures c.with_size.ensures
