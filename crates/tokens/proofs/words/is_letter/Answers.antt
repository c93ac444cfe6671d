-- Each test decides one pick of `is_letter`.
use Rattle.prelude.proofs.Picks.{picks}
use Rattle.tokens.specs.Words.{is_letter}
use Rattle.tokens.proofs.words.is_letter.Goals as goal

pub returns-then-in_range : goal.returns-then-in_range
unfolding is_letter
returns-then-in_range c = search (picks, ← c.in_range.ensures)

pub returns-then-in_range-2 : goal.returns-then-in_range-2
unfolding is_letter
returns-then-in_range-2 c = search (picks, ← c.in_range.ensures, ← c.in_range-2.ensures)

pub returns : goal.returns
unfolding is_letter
returns c = search (picks, ← c.in_range.ensures, ← c.in_range-2.ensures)
