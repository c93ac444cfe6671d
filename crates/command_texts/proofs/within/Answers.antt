-- The lesser of both lies in the buffer.
use mathlib.Core.Path.{sym}
use lib.Seq.{length-take-le}
use Rattle.command_texts.proofs.within.Goals as goal

pub returns : goal.returns
returns c = record { counts = (c.least.ensures.1, sym (length-take-le _ _ c.least.ensures.1)); is = (c.least.ensures.2, c.least.ensures.3) }
