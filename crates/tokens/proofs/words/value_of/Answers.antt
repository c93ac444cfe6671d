-- Each comparison decides one pick of `word_value` (Spelling).
use Rattle.tokens.proofs.Spelling.{is_null, is_false, is_true, is_other_lem}
use Rattle.tokens.proofs.words.value_of.Goals as goal

pub returns-then-same : goal.returns-then-same
returns-then-same c = is_null _ _ c.same.ensures c.if-same.true

pub returns-then-same-2 : goal.returns-then-same-2
returns-then-same-2 c = is_false _ _ c.same.ensures _ c.same-2.ensures c.if-same.false c.if-same-2.true

pub returns-then-same-3 : goal.returns-then-same-3
returns-then-same-3 c = is_true _ _ c.same.ensures _ c.same-2.ensures c.if-same.false _ c.same-3.ensures c.if-same-2.false c.if-same-3.true

pub returns : goal.returns
returns c = is_other_lem _ _ c.same.ensures _ c.same-2.ensures c.if-same.false _ c.same-3.ensures c.if-same-2.false c.if-same-3.false
