-- Each test decides one pick of `is_number`.
use Rattle.prelude.proofs.Picks.{picks}
use Rattle.tokens.specs.Numbers.{is_number}
use Rattle.tokens.proofs.numbers.is_number.Goals as goal

pub returns-then-is_digit : goal.returns-then-is_digit
unfolding is_number
returns-then-is_digit c = search (picks, ← c.is_digit.ensures)

pub returns-then-is_sign : goal.returns-then-is_sign
unfolding is_number
returns-then-is_sign c = search (picks, ← c.is_digit.ensures, ← c.is_sign.ensures)

pub returns-then-x-eq46 : goal.returns-then-x-eq46
unfolding is_number
returns-then-x-eq46 c = search (picks, ← c.is_digit.ensures, ← c.is_sign.ensures)

pub returns : goal.returns
unfolding is_number
returns c = search (picks, ← c.is_digit.ensures, ← c.is_sign.ensures, ← c.is_e.ensures)
