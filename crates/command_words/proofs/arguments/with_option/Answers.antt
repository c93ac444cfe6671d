-- Choice by choice (Choices).
use Rattle.command_words.proofs.Choices.{option_unknown, option_known}
use Rattle.command_words.proofs.arguments.with_option.Goals as goal

pub returns-then-bit-known-eq0 : goal.returns-then-bit-known-eq0
returns-then-bit-known-eq0 c = option_unknown c.args.o c.args.i c.args.bit c.args.known c.if-bit-known-eq0.true c.faulty.ensures

pub returns : goal.returns
returns c = option_known c.args.o c.args.i c.args.bit c.args.known c.if-bit-known-eq0.false
