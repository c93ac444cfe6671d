-- The lent table's rule at the byte.
use native.Mathlib.Omega.{arith}
use Rattle.utf8.proofs.classes.Classes.class.Goals as goal

pub returns : goal.returns
returns c = c.args.self.now.rule _ (omega arith)
