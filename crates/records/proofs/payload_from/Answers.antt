-- The test decides the pick.
use Rattle.prelude.proofs.Picks.{picks}
use Rattle.records.proofs.payload_from.Goals as goal

pub returns-then-room-used-lt-HEAD : goal.returns-then-room-used-lt-HEAD
returns-then-room-used-lt-HEAD c = search picks

pub returns : goal.returns
returns c = search picks
