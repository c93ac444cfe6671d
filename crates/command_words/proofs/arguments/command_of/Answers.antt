-- By the words, one after another (Choices).
use Rattle.command_words.proofs.Choices.{alike, differ, named_1, named_2, named_3, named_4, named_5}
use Rattle.command_words.proofs.arguments.command_of.Goals as goal

pub returns-then-same : goal.returns-then-same
returns-then-same c = named_1 c.args.word.now (alike c.same.ensures c.if-same.true)

pub returns-then-same-2 : goal.returns-then-same-2
returns-then-same-2 c = named_2 c.args.word.now (differ c.same.ensures c.if-same.false) (alike c.same-2.ensures c.if-same-2.true)

pub returns-then-same-3 : goal.returns-then-same-3
returns-then-same-3 c = named_3 c.args.word.now (differ c.same.ensures c.if-same.false) (differ c.same-2.ensures c.if-same-2.false) (alike c.same-3.ensures c.if-same-3.true)

pub returns-then-same-4 : goal.returns-then-same-4
returns-then-same-4 c =
    named_4 c.args.word.now (differ c.same.ensures c.if-same.false) (differ c.same-2.ensures c.if-same-2.false) (differ c.same-3.ensures c.if-same-3.false) (alike c.same-4.ensures c.if-same-4.true)

pub returns : goal.returns
returns c =
    named_5 c.args.word.now _ (differ c.same.ensures c.if-same.false) (differ c.same-2.ensures c.if-same-2.false) (differ c.same-3.ensures c.if-same-3.false) (differ c.same-4.ensures c.if-same-4.false) c.command_that_reads.ensures
