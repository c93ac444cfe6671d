-- Choice by choice (Choices).
use Rattle.command_words.proofs.Choices.{size_none, size_some}
use Rattle.command_words.proofs.arguments.with_size.Goals as goal

pub returns-in-None : goal.returns-in-None
returns-in-None c = size_none c.args.o c.args.i _ c.in-None.is c.faulty.ensures

pub returns-in-Some : goal.returns-in-Some
returns-in-Some c = size_some c.args.o c.args.i _ _ c.in-Some.is
