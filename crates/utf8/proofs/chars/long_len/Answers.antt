-- The definition's decision list, with the bytes that were read.
use Rattle.utf8.specs.Utf8.{long_len}
use Rattle.prelude.proofs.Picks.{picks}
use Rattle.utf8.proofs.CharSteps.{four_way}
use Rattle.utf8.proofs.chars.long_len.Goals as goal

pub returns-then-k-lt7 : goal.returns-then-k-lt7
unfolding long_len
returns-then-k-lt7 c = search (picks, c.two_bytes.ensures, ← c.byte_at.ensures)

pub returns-then-k-lt10 : goal.returns-then-k-lt10
unfolding long_len
returns-then-k-lt10 c = search (picks, c.three_bytes.ensures, ← c.byte_at-then-k-lt10.ensures, ← c.byte_at-then-k-lt10-2.ensures)

pub returns-then-k-lt13 : goal.returns-then-k-lt13
returns-then-k-lt13 c =
    four_way _ _ _ _ _ _ _ _ c.four_bytes.ensures c.byte_at-then-k-lt13.ensures c.byte_at-then-k-lt13-2.ensures c.byte_at-then-k-lt13-3.ensures c.if-k-lt10.false c.if-k-lt13.true

pub returns : goal.returns
unfolding long_len
returns c = search picks
