-- The test decides as in `is_ended`.
use Rattle.prelude.proofs.Picks.{picks}
use Rattle.structs.specs.Uploads.{is_ended}
use Rattle.structs.proofs.uploads.is_ended.Goals as goal

pub returns-then-n-eq0 : goal.returns-then-n-eq0
unfolding is_ended
returns-then-n-eq0 c = search picks

pub returns : goal.returns
unfolding is_ended
returns c = search picks
