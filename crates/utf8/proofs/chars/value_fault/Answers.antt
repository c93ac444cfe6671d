-- The definition's decision list, by the tests that led to each return.
use Rattle.utf8.specs.Utf8.{value_fault}
use Rattle.prelude.proofs.Picks.{picks}
use Rattle.utf8.proofs.chars.value_fault.Goals as goal

pub returns-then-v-least : goal.returns-then-v-least
unfolding value_fault
returns-then-v-least c = search (picks, ← c.is_surrogate-half.ensures)

pub returns-then-half : goal.returns-then-half
unfolding value_fault
returns-then-half c = search (picks, ← c.is_surrogate-half.ensures)

pub returns-then-v-gt1114111 : goal.returns-then-v-gt1114111
unfolding value_fault
returns-then-v-gt1114111 c = search (picks, ← c.is_surrogate-half.ensures)

pub returns : goal.returns
unfolding value_fault
returns c = search (picks, ← c.is_surrogate-half.ensures)
