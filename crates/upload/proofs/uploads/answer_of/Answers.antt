-- The test of the refusal decides as in `answer_of`.
use Rattle.upload.proofs.Values.{answer_none, answer_some}
use Rattle.upload.proofs.uploads.answer_of.Goals as goal

pub returns-then-s-eq0 : goal.returns-then-s-eq0
returns-then-s-eq0 c = answer_none _ _ c.without_line.ensures c.if-s-eq0.true

pub returns : goal.returns
returns c = answer_some _ c.if-s-eq0.false
