-- The definition's decision list on the byte that stands there (UnitLaws).
use borrow.Author.Rules.{rules}
use Rattle.units.proofs.UnitLaws.{unit_end, unit_close, unit_escape, unit_control, unit_literal}
use Rattle.units.proofs.units.unit_at.Goals as goal

pub returns-then-s-at : goal.returns-then-s-at
returns-then-s-at c = record { is = search unit_end; few = tt }

pub returns-then-b-quote_of : goal.returns-then-b-quote_of
returns-then-b-quote_of c = record { is = search unit_close; few = tt }

pub returns-then-b-eq92 : goal.returns-then-b-eq92
returns-then-b-eq92 c = record { is = search unit_escape; few = search rules }

pub returns-then-b-lt32 : goal.returns-then-b-lt32
returns-then-b-lt32 c = record { is = search unit_control; few = tt }

pub returns : goal.returns
returns c = record { is = search unit_literal; few = search rules }
