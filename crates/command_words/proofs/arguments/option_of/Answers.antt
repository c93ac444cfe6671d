-- By the words, one after another (Choices).
use Rattle.command_words.proofs.Choices.{alike, differ, option_1, option_2, option_3, option_4, option_5, option_6, option_7, option_8}
use Rattle.command_words.proofs.arguments.option_of.Goals as goal

pub returns-then-same : goal.returns-then-same
returns-then-same c = option_1 c.args.word.now (alike c.same.ensures c.if-same.true)

pub returns-then-same-2 : goal.returns-then-same-2
returns-then-same-2 c = option_2 c.args.word.now (differ c.same.ensures c.if-same.false) (alike c.same-2.ensures c.if-same-2.true)

pub returns-then-same-3 : goal.returns-then-same-3
returns-then-same-3 c =
    option_3 c.args.word.now (differ c.same.ensures c.if-same.false) (differ c.same-2.ensures c.if-same-2.false) (alike c.same-3.ensures c.if-same-3.true)

pub returns-then-same-4 : goal.returns-then-same-4
returns-then-same-4 c =
    option_4 c.args.word.now (differ c.same.ensures c.if-same.false) (differ c.same-2.ensures c.if-same-2.false) (differ c.same-3.ensures c.if-same-3.false) (alike c.same-4.ensures c.if-same-4.true)

pub returns-then-same-5 : goal.returns-then-same-5
returns-then-same-5 c =
    option_5 c.args.word.now (differ c.same.ensures c.if-same.false) (differ c.same-2.ensures c.if-same-2.false) (differ c.same-3.ensures c.if-same-3.false) (differ c.same-4.ensures c.if-same-4.false) (alike c.same-5.ensures c.if-same-5.true)

pub returns-then-same-6 : goal.returns-then-same-6
returns-then-same-6 c =
    option_6 c.args.word.now (differ c.same.ensures c.if-same.false) (differ c.same-2.ensures c.if-same-2.false) (differ c.same-3.ensures c.if-same-3.false) (differ c.same-4.ensures c.if-same-4.false) (differ c.same-5.ensures c.if-same-5.false) (alike c.same-6.ensures c.if-same-6.true)

pub returns-then-same-7 : goal.returns-then-same-7
returns-then-same-7 c =
    option_7 c.args.word.now (differ c.same.ensures c.if-same.false) (differ c.same-2.ensures c.if-same-2.false) (differ c.same-3.ensures c.if-same-3.false) (differ c.same-4.ensures c.if-same-4.false) (differ c.same-5.ensures c.if-same-5.false) (differ c.same-6.ensures c.if-same-6.false) (alike c.same-7.ensures c.if-same-7.true)

pub returns : goal.returns
returns c =
    option_8 c.args.word.now (differ c.same.ensures c.if-same.false) (differ c.same-2.ensures c.if-same-2.false) (differ c.same-3.ensures c.if-same-3.false) (differ c.same-4.ensures c.if-same-4.false) (differ c.same-5.ensures c.if-same-5.false) (differ c.same-6.ensures c.if-same-6.false) (differ c.same-7.ensures c.if-same-7.false)
