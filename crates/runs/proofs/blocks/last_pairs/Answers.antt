-- The last block holds what is left, so the run reaches its end (BlockLaws).
use native.Mathlib.Omega.{arith}
use Rattle.runs.proofs.LiteralRuns.{here}
use Rattle.runs.proofs.BlockLaws.{over_two_pairs}
use Rattle.runs.proofs.blocks.last_pairs.Goals as goal

pub returns-then-n-lt33 : goal.returns-then-n-lt33
returns-then-n-lt33 c = here _ _ _ c.requires

pub returns-then-n-from-ge33 : goal.returns-then-n-from-ge33
returns-then-n-from-ge33 c = here _ _ _ c.requires

pub returns-then-n-from-lt2 : goal.returns-then-n-from-lt2
returns-then-n-from-lt2 c = here _ _ _ c.requires

pub returns-then-continues : goal.returns-then-continues
returns-then-continues c = here _ _ _ c.requires

pub returns-then-any_odd_pair : goal.returns-then-any_odd_pair
returns-then-any_odd_pair c = here _ _ _ c.requires

pub returns : goal.returns
returns c =
    over_two_pairs _ _ _ _ c.quote_of.ensures _ _ 32 _ (omega arith) (omega arith) (omega arith) (omega arith) _ _ (omega arith) c.continues.ensures c.if-continues.false (c.any_odd_pair.ensures c.if-any_odd_pair.false) (c.any_odd_pair.ensures c.if-any_odd_pair.false) c.behind.ensures
