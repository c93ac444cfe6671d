-- The mark and the count decide the picks of `columns_of` (HeadTexts).
use Rattle.tsv8.proofs.HeadTexts.{columns_unmarked, columns_none, columns_many, columns_are}
use Rattle.tsv8.proofs.heads.columns.Goals as goal

pub returns-then-not-same : goal.returns-then-not-same
returns-then-not-same c = columns_unmarked _ _ _ _ c.same.ensures c.if-not-same.true

pub returns-then-n-eq0 : goal.returns-then-n-eq0
returns-then-n-eq0 c = columns_none _ _ _ _ c.same.ensures c.if-not-same.false _ c.tabs-n.ensures c.if-n-eq0.true

pub returns-then-n-gt-COLUMN_MAX : goal.returns-then-n-gt-COLUMN_MAX
returns-then-n-gt-COLUMN_MAX c = columns_many _ _ _ _ c.same.ensures c.if-not-same.false _ c.tabs-n.ensures c.if-n-eq0.false c.if-n-gt-COLUMN_MAX.true

pub returns : goal.returns
returns c = columns_are _ _ _ _ c.same.ensures c.if-not-same.false _ c.tabs-n.ensures c.if-n-eq0.false c.if-n-gt-COLUMN_MAX.false
