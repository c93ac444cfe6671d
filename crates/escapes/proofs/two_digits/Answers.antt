-- By the count of the digits (EscapeLaws).
use borrow.Author.Rules.{rules}
use Rattle.escapes.proofs.EscapeLaws.{raw_two, raw_not}
use Rattle.escapes.proofs.two_digits.Goals as goal

pub returns-then-n-eq2 : goal.returns-then-n-eq2
returns-then-n-eq2 c = record { is = search raw_two; few = search rules }

pub returns : goal.returns
returns c = record { is = search raw_not; few = tt }
