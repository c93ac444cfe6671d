-- Each test of the definition is a test of the code.
use Rattle.prelude.specs.Pick.{pick}
use Rattle.utf8.specs.Utf8.{four_bytes}
use Rattle.utf8.proofs.chars.four_bytes.Goals as goal

pub returns-then-in_range-3 : goal.returns-then-in_range-3
unfolding four_bytes pick
returns-then-in_range-3 c =
    rw (← c.low_of.ensures, ← c.high_of.ensures, ← c.in_range.ensures, c.if-in_range.true, ← c.in_range-then-in_range.ensures, c.if-in_range-2.true, ← c.in_range-then-in_range-2.ensures, c.if-in_range-3.true)

pub returns-then-in_range-2 : goal.returns-then-in_range-2
unfolding four_bytes pick
returns-then-in_range-2 c =
    rw (← c.low_of.ensures, ← c.high_of.ensures, ← c.in_range.ensures, c.if-in_range.true, ← c.in_range-then-in_range.ensures, c.if-in_range-2.true, ← c.in_range-then-in_range-2.ensures, c.if-in_range-3.false)

pub returns-then-in_range : goal.returns-then-in_range
unfolding four_bytes pick
returns-then-in_range c = rw (← c.low_of.ensures, ← c.high_of.ensures, ← c.in_range.ensures, c.if-in_range.true, ← c.in_range-then-in_range.ensures, c.if-in_range-2.false)

pub returns : goal.returns
unfolding four_bytes pick
returns c = rw (← c.low_of.ensures, ← c.high_of.ensures, ← c.in_range.ensures, c.if-in_range.false)
