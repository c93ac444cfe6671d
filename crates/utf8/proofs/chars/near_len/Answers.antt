-- The definition's decision list, with the bytes that were read.
use Rattle.utf8.specs.Utf8.{long_len}
use Rattle.prelude.proofs.Picks.{picks}
use Rattle.utf8.proofs.chars.near_len.Goals as goal

pub returns-then-k-lt7 : goal.returns-then-k-lt7
unfolding long_len
returns-then-k-lt7 c = search (picks, c.two_bytes.ensures, ← c.byte_at.ensures)

pub returns-then-k-lt10 : goal.returns-then-k-lt10
unfolding long_len
returns-then-k-lt10 c = search (picks, c.three_bytes.ensures, ← c.byte_at-then-k-lt10.ensures, ← c.byte_at-then-k-lt10-2.ensures)
