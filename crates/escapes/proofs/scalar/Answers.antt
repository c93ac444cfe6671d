-- The definition's tests, each decided by a test of the code.
use borrow.Author.Rules.{rules}
use Rattle.escapes.specs.Escapes.{scalar}
use Rattle.prelude.proofs.Picks.{tests}
use Rattle.escapes.proofs.EscapeLaws.{scalar_below}
use Rattle.escapes.proofs.scalar.Goals as goal

pub returns-then-v-lt55296 : goal.returns-then-v-lt55296
returns-then-v-lt55296 c = record { is = search scalar_below; few = search rules }

pub returns-then-v-le57343 : goal.returns-then-v-le57343
unfolding scalar
returns-then-v-le57343 c = record { is = search tests; few = search rules }

pub returns-then-v-gt1114111 : goal.returns-then-v-gt1114111
unfolding scalar
returns-then-v-gt1114111 c = record { is = search tests; few = search rules }

pub returns : goal.returns
unfolding scalar
returns c = record { is = search tests; few = search rules }
