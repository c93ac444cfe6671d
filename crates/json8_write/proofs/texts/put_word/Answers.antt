-- By the kind (TextParts).
use Rattle.json8_write.proofs.TextParts.{word_null, word_false, word_true}
use Rattle.json8_write.proofs.texts.put_word.Goals as goal

pub returns-then-kind-eq0 : goal.returns-then-kind-eq0
returns-then-kind-eq0 c = word_null c.if-kind-eq0.true c.put_null.ensures

pub returns-then-kind-eq1 : goal.returns-then-kind-eq1
returns-then-kind-eq1 c = word_false c.if-kind-eq0.false c.if-kind-eq1.true c.put_false.ensures

pub returns : goal.returns
returns c = word_true c.if-kind-eq0.false c.if-kind-eq1.false c.put_true.ensures
