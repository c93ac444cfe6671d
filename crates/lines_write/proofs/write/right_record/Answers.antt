-- The two tests are those of `right_record`, on the payload as a part of the records (LineTexts).
use native.Mathlib.Omega.{arith}
use Rattle.lines_write.proofs.LineTexts.{cut_short, kind_told}
use Rattle.lines_write.proofs.write.right_record.Goals as goal

pub returns-then-s-at : goal.returns-then-s-at
returns-then-s-at c = cut_short c.args.s.now _ _ c.requires c.number_at-n.ensures.0 (omega arith)

pub returns : goal.returns
returns c = kind_told c.args.s.now _ _ c.requires c.number_at-n.ensures.0 _ _ (omega arith) c.kind_in-kind.ensures c.number_at.ensures.0
