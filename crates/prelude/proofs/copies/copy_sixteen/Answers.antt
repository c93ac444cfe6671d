-- Sixteen bytes put over an array of sixteen are what it holds.
use native.Mathlib.Omega.{arith}
use mathlib.Core.Path.{refl}
use lib.ListN.{drop, length-drop}
use Rattle.prelude.proofs.Stores.{staged}
use Rattle.prelude.proofs.copies.copy_sixteen.Goals as goal

pub returns : goal.returns
returns c = staged (drop c.args.at c.args.s.now) _ _ _ _ 16 c.args.o (simp length-drop (omega arith)) refl c.copy_all.ensures c.copy_all-2.ensures
