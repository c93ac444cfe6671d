-- Choice by choice (Choices).
use mathlib.Core.Path.{sym, ◌∙◌}
use Rattle.command_words.proofs.Choices.{file_second, file_first}
use Rattle.command_words.proofs.arguments.with_file.Goals as goal

pub returns-then-is_some : goal.returns-then-is_some
returns-then-is_some c = file_second c.args.o c.args.i (sym c.is_some.ensures ∙ c.if-is_some.true) c.faulty.ensures

pub returns : goal.returns
returns c = file_first c.args.o c.args.i (sym c.is_some.ensures ∙ c.if-is_some.false)
