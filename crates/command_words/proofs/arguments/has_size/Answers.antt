-- The front that is compared is whole (Choices).
use Rattle.command_words.proofs.Choices.{has_short, has_there, told}
use mathlib.Core.Path.{sym}
use lib.Seq.{length-take-le}
use Rattle.command_words.proofs.arguments.has_size.Goals as goal

pub returns-then-word-lt-SIZE_AT : goal.returns-then-word-lt-SIZE_AT
returns-then-word-lt-SIZE_AT c = has_short c.args.word.now c.if-word-lt-SIZE_AT.true

pub slice_bounds-same-end : goal.slice_bounds-same-end
slice_bounds-same-end c = sym (length-take-le 9 c.args.word.now c.if-word-lt-SIZE_AT.false)

pub returns : goal.returns
returns c = has_there c.args.word.now c.if-word-lt-SIZE_AT.false (told c.same.ensures)
