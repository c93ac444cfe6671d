-- No store, one, or both, by the room; a store past the end changes nothing.
use native.Mathlib.Omega.{arith}
use lib.ListN.{length-set}
use Rattle.units.proofs.EscapeStores.{two_out, two_first, two_both}
use Rattle.units.proofs.written.put_two.Goals as goal

pub returns-then-n-o : goal.returns-then-n-o
returns-then-n-o c = two_out c.args.a c.args.b c.args.o c.args.out.now c.if-n-o.true

pub returns-then-n-o-eq1 : goal.returns-then-n-o-eq1
returns-then-n-o-eq1 c = two_first c.args.a c.args.b c.args.o c.args.out.now c.if-n-o-eq1.true

pub bounds-out-o-2 : goal.bounds-out-o-2
bounds-out-o-2 c = omega (arith, length-set c.args.out.now c.args.o c.args.a)

pub returns : goal.returns
returns c = two_both c.args.a c.args.b c.args.o c.args.out.now
