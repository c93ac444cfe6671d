-- A last byte that isn't odd is one literal character (BlockLaws).
use native.Mathlib.Omega.{arith}
use Rattle.runs.proofs.LiteralRuns.{here}
use Rattle.runs.proofs.BlockLaws.{over_byte}
use Rattle.runs.proofs.blocks.last_byte.Goals as goal

pub returns-then-s-from-ne1 : goal.returns-then-s-from-ne1
returns-then-s-from-ne1 c = here _ _ _ c.requires

pub returns-then-odd : goal.returns-then-odd
returns-then-odd c = here _ _ _ c.requires

pub returns : goal.returns
returns c = over_byte _ _ _ _ c.quote_of.ensures (omega arith) (c.odd.ensures.0 c.if-odd.false)
