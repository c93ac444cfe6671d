-- Choice by choice (Choices).
use mathlib.Core.Path.{sym, ◌∙◌}
use Rattle.command_words.proofs.Choices.{fault_kept, fault_first}
use Rattle.command_words.proofs.arguments.faulty.Goals as goal

pub returns-then-is_some : goal.returns-then-is_some
returns-then-is_some c = fault_kept c.args.o _ _ (sym c.is_some.ensures ∙ c.if-is_some.true)

pub returns : goal.returns
returns c = fault_first c.args.o _ _ (sym c.is_some.ensures ∙ c.if-is_some.false)
