-- Each test of the definition is a test of the code.
use Rattle.prelude.specs.Pick.{pick}
use Rattle.utf8.specs.Utf8.{no_start}
use Rattle.utf8.proofs.chars.no_start.Goals as goal

pub returns-then-in_range : goal.returns-then-in_range
unfolding no_start pick
returns-then-in_range c = rw (← c.in_range.ensures, c.if-in_range.true)

pub returns : goal.returns
unfolding no_start pick
returns c = rw (← c.in_range.ensures, c.if-in_range.false)
