-- Eights are plain and blocks are literal; each leaves the run's end where it was.
use Rattle.runs.proofs.LiteralRuns.{begun}
use Rattle.runs.proofs.literals.several.Goals as goal

pub returns-then-s-from-lt33 : goal.returns-then-s-from-lt33
returns-then-s-from-lt33 c = begun _ _ _ _ c.requires c.plain_eights.ensures
