-- The end is cut off; anything else is misplaced.
use native.Mathlib.Omega.{arith}
use Rattle.json8_leaves.proofs.Single.{absent_end, absent_other}
use Rattle.json8_leaves.proofs.leaves.misplaced.Goals as goal

pub returns-then-text-at : goal.returns-then-text-at
returns-then-text-at c = absent_end _ _ c.if-text-at.true

pub returns : goal.returns
returns c = absent_other c.args.text.now c.args.at (omega (arith, c.if-text-at.false))
