-- The four bytes one by one, of which the first n count (UnitLaws).
use borrow.Author.Rules.{rules}
use Rattle.units.proofs.UnitLaws.{few_front}
use Rattle.units.proofs.units.few_at.Goals as goal

pub returns : goal.returns
returns c = record { is = search few_front; few = search rules }
