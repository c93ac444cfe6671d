-- Each case answers as `unshown` (Showing).
use Rattle.json8_show.proofs.Showing.{some_told, none_told}
use Rattle.json8_show.proofs.show.unshown.Goals as goal

pub returns-in-Some : goal.returns-in-Some
returns-in-Some c = search some_told

pub returns-in-None : goal.returns-in-None
returns-in-None c = search none_told
