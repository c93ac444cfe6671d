-- The text's length or the sum decides (Whole).
use Rattle.json8_read.proofs.Whole.{long_enough, by_sum}
use Rattle.json8_read.proofs.read.is_tight.Goals as goal

pub returns-then-bytes-room : goal.returns-then-bytes-room
returns-then-bytes-room c = let r = long_enough _ _ _ c.if-bytes-room.true in record { tight = r.0; wide = r.1 }

pub returns : goal.returns
returns c = let r = by_sum _ _ _ _ c.stored.ensures in record { tight = r.0; wide = r.1 }
