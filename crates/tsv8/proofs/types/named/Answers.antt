-- Each comparison decides one pick of `type_named` (TypeTexts).
use Rattle.tsv8.proofs.TypeTexts.{named_bool, named_int, named_float, named_str, named_none}
use Rattle.tsv8.proofs.types.named.Goals as goal

pub returns-then-same : goal.returns-then-same
returns-then-same c = named_bool _ _ c.same.ensures c.if-same.true

pub returns-then-same-2 : goal.returns-then-same-2
returns-then-same-2 c = named_int _ _ c.same.ensures c.if-same.false _ c.same-2.ensures c.if-same-2.true

pub returns-then-same-3 : goal.returns-then-same-3
returns-then-same-3 c = named_float _ _ c.same.ensures c.if-same.false _ c.same-2.ensures c.if-same-2.false _ c.same-3.ensures c.if-same-3.true

pub returns-then-same-4 : goal.returns-then-same-4
returns-then-same-4 c =
    named_str _ _ c.same.ensures c.if-same.false _ c.same-2.ensures c.if-same-2.false _ c.same-3.ensures c.if-same-3.false _ c.same-4.ensures c.if-same-4.true

pub returns : goal.returns
returns c =
    named_none _ _ c.same.ensures c.if-same.false _ c.same-2.ensures c.if-same-2.false _ c.same-3.ensures c.if-same-3.false _ c.same-4.ensures c.if-same-4.false
