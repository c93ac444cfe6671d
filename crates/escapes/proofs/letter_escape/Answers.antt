-- By whether the letter denotes a byte.
use borrow.Author.Rules.{rules}
use Rattle.escapes.proofs.EscapeLaws.{letter_some, letter_none}
use Rattle.escapes.proofs.letter_escape.Goals as goal

pub returns-in-Some : goal.returns-in-Some
returns-in-Some c = record { is = letter_some _ _ _ c.byte_unit.ensures.is c.in-Some.ensures; few = search rules }

pub returns-in-None : goal.returns-in-None
returns-in-None c = record { is = letter_none _ c.in-None.ensures; few = tt }
