-- The definition's decision list, by the tests that led to each return; a start from 80 on is c0 or more (Values).
use Rattle.utf8.specs.Utf8.{start_bits}
use Rattle.prelude.proofs.Picks.{picks}
use Rattle.utf8.proofs.Values.{start_range}
use Rattle.utf8.proofs.chars.start_bits.Goals as goal

pub returns-then-a-lt128 : goal.returns-then-a-lt128
unfolding start_bits
returns-then-a-lt128 c = search picks

pub overflow_sub-result : goal.overflow_sub-result
overflow_sub-result c = (start_range _ c.requires).0 c.if-a-lt128.false

pub returns-then-a-lt224 : goal.returns-then-a-lt224
unfolding start_bits
returns-then-a-lt224 c = search picks

pub returns-then-a-lt240 : goal.returns-then-a-lt240
unfolding start_bits
returns-then-a-lt240 c = search picks

pub returns : goal.returns
unfolding start_bits
returns c = search picks
