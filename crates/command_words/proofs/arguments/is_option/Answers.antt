-- By the length and the first byte (Choices).
use Rattle.command_words.proofs.Choices.{option_short, option_first}
use Rattle.command_words.proofs.arguments.is_option.Goals as goal

pub returns-then-word-lt2 : goal.returns-then-word-lt2
returns-then-word-lt2 c = option_short c.args.word.now c.if-word-lt2.true

pub returns : goal.returns
returns c = option_first c.args.word.now c.if-word-lt2.false
