-- The definition's decision list, by the tests that led to each return.
use Rattle.prelude.proofs.Picks.{picks}
use Rattle.units.specs.Written.{hex_digit}
use Rattle.terminals.proofs.hex_digit.Goals as goal

pub returns-then-d-lt10 : goal.returns-then-d-lt10
unfolding hex_digit
returns-then-d-lt10 c = search picks

pub returns : goal.returns
unfolding hex_digit
returns c = search picks
