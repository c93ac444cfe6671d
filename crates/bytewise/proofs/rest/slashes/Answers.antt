-- The shift, computed for each class (ByteTexts).
use Rattle.bytewise.proofs.ByteTexts.{slash_shift}
use Rattle.bytewise.proofs.rest.slashes.Goals as goal

pub returns : goal.returns
returns c = slash_shift _ c.requires
