-- Choice by choice (Choices).
use Rattle.command_words.proofs.Choices.{alike, differ, word_file, word_end, word_size, word_option}
use mathlib.Core.Path.{sym, ◌∙◌}
use Rattle.command_words.proofs.arguments.with_word.Goals as goal

pub returns-then-not-is_option : goal.returns-then-not-is_option
returns-then-not-is_option c = word_file c.args.o c.args.i c.args.word.now c.args.known (sym c.is_option.ensures ∙ c.if-not-is_option.true) c.with_file.ensures

pub returns-then-same : goal.returns-then-same
returns-then-same c = word_end c.args.o c.args.i c.args.word.now c.args.known (sym c.is_option.ensures ∙ c.if-not-is_option.false) (alike c.same.ensures c.if-same.true)

pub returns-then-has_size : goal.returns-then-has_size
returns-then-has_size c =
    word_size c.args.o c.args.i c.args.word.now c.args.known (sym c.is_option.ensures ∙ c.if-not-is_option.false) (differ c.same.ensures c.if-same.false) (sym c.has_size.ensures ∙ c.if-has_size.true) c.with_sized.ensures

pub returns : goal.returns
returns c =
    word_option c.args.o c.args.i c.args.word.now c.args.known (sym c.is_option.ensures ∙ c.if-not-is_option.false) (differ c.same.ensures c.if-same.false) _ (sym c.has_size.ensures ∙ c.if-has_size.false) c.option_of.ensures c.with_option.ensures
