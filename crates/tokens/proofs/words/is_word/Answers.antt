-- Each test decides one pick of `is_word`.
use Rattle.prelude.proofs.Picks.{picks}
use Rattle.tokens.specs.Words.{is_word}
use Rattle.tokens.proofs.words.is_word.Goals as goal

pub returns-then-is_letter : goal.returns-then-is_letter
unfolding is_word
returns-then-is_letter c = search (picks, ← c.is_letter.ensures)

pub returns : goal.returns
unfolding is_word
returns c = search (picks, ← c.is_letter.ensures, ← c.is_digit.ensures)
