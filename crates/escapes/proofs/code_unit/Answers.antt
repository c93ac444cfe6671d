-- The definition's tests, each decided by a test of the code.
use borrow.Author.Rules.{rules}
use Rattle.escapes.specs.Escapes.{code_unit}
use Rattle.prelude.proofs.Picks.{tests}
use Rattle.escapes.proofs.EscapeLaws.{unit_joined, unit_alone}
use Rattle.escapes.proofs.code_unit.Goals as goal

pub returns-then-v-lt55296 : goal.returns-then-v-lt55296
unfolding code_unit
returns-then-v-lt55296 c = record { is = search tests; few = search rules }

pub returns-in-Some : goal.returns-in-Some
returns-in-Some c = record { is = search unit_joined; few = search rules }

pub returns-in-None : goal.returns-in-None
returns-in-None c = record { is = search unit_alone; few = search rules }

pub returns : goal.returns
unfolding code_unit
returns c = record { is = search tests; few = search rules }
