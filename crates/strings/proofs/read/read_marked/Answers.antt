-- The run from the place on is the rest of the run from the mark on; then one copy or two passes.
use Rattle.runs.proofs.LiteralRuns.{through}
use Rattle.strings.proofs.read.read_marked.Goals as goal

pub literal_run-e-requires : goal.literal_run-e-requires
literal_run-e-requires c = c.requires.1.inside

pub closes-requires : goal.closes-requires
closes-requires c = (through _ _ _ _ _ c.requires.1 c.literal_run-e.ensures).inside

pub read_run-requires : goal.read_run-requires
read_run-requires c = (c.requires.0, through _ _ _ _ _ c.requires.1 c.literal_run-e.ensures, c.closes.ensures.0 c.if-closes.true)

pub two_passes-requires : goal.two_passes-requires
two_passes-requires c = c.requires.0
