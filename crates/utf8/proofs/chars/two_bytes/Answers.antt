-- Each test of the definition is a test of the code.
use Rattle.prelude.specs.Pick.{pick}
use Rattle.utf8.specs.Utf8.{two_bytes}
use Rattle.utf8.proofs.chars.two_bytes.Goals as goal

pub returns-then-in_range : goal.returns-then-in_range
unfolding two_bytes pick
returns-then-in_range c = rw (← c.in_range.ensures, c.if-in_range.true)

pub returns : goal.returns
unfolding two_bytes pick
returns c = rw (← c.in_range.ensures, c.if-in_range.false)
