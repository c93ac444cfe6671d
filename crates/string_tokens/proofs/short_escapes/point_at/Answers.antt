-- The number, and the half behind it.
use mathlib.Core.Path.{◌∙◌}
use Rattle.string_tokens.proofs.short_escapes.point_at.Goals as goal

pub joined-requires : goal.joined-requires
joined-requires c = (c.in_ok-v.ensures.0, c.in_ok-v.ensures.1)

pub returns : goal.returns
returns c = (c.joined.ensures.0, c.in_ok-v.ensures.2 ∙ c.joined.ensures.1)
