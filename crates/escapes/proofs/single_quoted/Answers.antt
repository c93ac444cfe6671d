-- The quote's pair first, then the pairs of every style.
use native.Mathlib.Omega.{arith}
use Rattle.escapes.specs.Escapes.{lookup}
use Rattle.prelude.proofs.Picks.{picks}
use Rattle.escapes.proofs.EscapeLaws.{other_letter}
use Rattle.escapes.proofs.single_quoted.Goals as goal

pub returns-then-c-eq39 : goal.returns-then-c-eq39
unfolding lookup
returns-then-c-eq39 c = (omega arith, search picks)

pub returns : goal.returns
returns c = other_letter _ _ c.if-c-eq39.false c.common.ensures
