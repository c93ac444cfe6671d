-- Each test decides one pick of `blank`.
use Rattle.prelude.proofs.Picks.{picks}
use Rattle.lines.specs.Line.{blank}
use Rattle.lines.proofs.strip.is_blank.Goals as goal

pub returns-then-x-eq32 : goal.returns-then-x-eq32
unfolding blank
returns-then-x-eq32 c = search picks

pub returns-then-x-eq9 : goal.returns-then-x-eq9
unfolding blank
returns-then-x-eq9 c = search picks

pub returns : goal.returns
unfolding blank
returns c = search picks
