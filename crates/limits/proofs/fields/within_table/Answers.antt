-- The lesser of both lies in the slice.
use Rattle.std.proofs.Common.{sym, length-take-le}
use Rattle.limits.proofs.fields.within_table.Goals as goal

pub returns : goal.returns
returns c = (c.least.ensures.1, sym (length-take-le _ _ c.least.ensures.1))
