-- Behind a long run nothing is read; else what `singles_from` reads.
use Rattle.strings.proofs.Advancing.{nothing_yet}
use Rattle.strings.proofs.singles.singles_behind.Goals as goal

pub returns-then-run-ge-STRETCH : goal.returns-then-run-ge-STRETCH
returns-then-run-ge-STRETCH c = nothing_yet c.args.style c.args.s.now c.args.from c.args.o c.args.out.now c.requires.0

pub returns : goal.returns
returns c = c.singles_from.ensures
