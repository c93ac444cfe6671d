-- A byte that is no quote and no backslash, and no control, is its own text (ByteTexts).
use Rattle.bytewise.proofs.ByteTexts.{unslashed}
use Rattle.bytewise.proofs.rest.slashed.Goals as goal

pub returns : goal.returns
returns c = unslashed _
