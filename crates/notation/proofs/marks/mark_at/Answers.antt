-- The definition's decision list, by the two bytes looked at.
use mathlib.Core.Path.{◌∙◌}
use Rattle.notation.proofs.MarkLaws.{json_mark, bare_mark, no_quote, unicode_mark, bytes_mark, other_mark}
use Rattle.notation.proofs.marks.mark_at.Goals as goal

pub returns-then-a-eq34 : goal.returns-then-a-eq34
returns-then-a-eq34 c = c.opens.ensures ∙ search json_mark

pub returns-then-a-eq39 : goal.returns-then-a-eq39
returns-then-a-eq39 c = c.opens-then-a-eq39.ensures ∙ search bare_mark

pub returns-then-byte_at-ne39 : goal.returns-then-byte_at-ne39
returns-then-byte_at-ne39 c = search no_quote

pub returns-then-a-eq117 : goal.returns-then-a-eq117
returns-then-a-eq117 c = c.opens-then-a-eq117.ensures ∙ search unicode_mark

pub returns-then-a-eq98 : goal.returns-then-a-eq98
returns-then-a-eq98 c = c.opens-then-a-eq98.ensures ∙ search bytes_mark

pub returns : goal.returns
returns c = search other_mark
