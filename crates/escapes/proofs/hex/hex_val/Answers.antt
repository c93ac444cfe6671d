-- The definition's decision list, by the tests that led to each return.
use native.Mathlib.Omega.{arith}
use Rattle.escapes.specs.Hex.{hex_val}
use Rattle.prelude.proofs.Picks.{picks}
use Rattle.escapes.proofs.hex.hex_val.Goals as goal

pub returns-then-b-lt48 : goal.returns-then-b-lt48
unfolding hex_val
returns-then-b-lt48 c = search picks

pub returns-then-b-le57 : goal.returns-then-b-le57
unfolding hex_val
returns-then-b-le57 c = (omega arith, search picks)

pub returns-then-b-lt65 : goal.returns-then-b-lt65
unfolding hex_val
returns-then-b-lt65 c = search picks

pub returns-then-b-le70 : goal.returns-then-b-le70
unfolding hex_val
returns-then-b-le70 c = (omega arith, search picks)

pub returns-then-b-lt97 : goal.returns-then-b-lt97
unfolding hex_val
returns-then-b-lt97 c = search picks

pub returns-then-b-le102 : goal.returns-then-b-le102
unfolding hex_val
returns-then-b-le102 c = (omega arith, search picks)

pub returns : goal.returns
unfolding hex_val
returns c = search picks
