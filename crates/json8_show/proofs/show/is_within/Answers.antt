-- The two tests are one comparison of the sum (Showing).
use Rattle.json8_show.proofs.Showing.{outside, inside_after}
use Rattle.json8_show.proofs.show.is_within.Goals as goal

pub returns-then-room-place : goal.returns-then-room-place
returns-then-room-place c = search outside

pub returns : goal.returns
returns c = search inside_after
