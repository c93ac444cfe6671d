-- Nothing before the first member, else one byte (TextParts).
use Rattle.json8_write.proofs.TextParts.{comma_none, comma_put}
use Rattle.json8_write.proofs.texts.put_comma.Goals as goal

pub returns-then-first : goal.returns-then-first
returns-then-first c = search comma_none
