-- As many are stored as there is room for, and the others would change nothing.
use native.Mathlib.Omega.{arith}
use lib.ListN.{drop, length-drop}
use Rattle.prelude.proofs.Stores.{copied_least}
use Rattle.prelude.proofs.slices.copy_run.Goals as goal

pub returns : goal.returns
returns c =
    copied_least (drop c.args.at c.args.s.now) c.args.out.now _ c.args.o _ c.args.n _ (simp length-drop (omega arith)) c.left.ensures c.least-m.ensures c.copy_all.ensures
