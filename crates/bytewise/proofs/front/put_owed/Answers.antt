-- By the tests of the two bytes (Fronts).
use native.Mathlib.Omega.{arith}
use lib.ListN.{length-set}
use Rattle.bytewise.proofs.Fronts.{owed_none, owed_one, owed_two}
use mathlib.Core.Path.{ap}
use mathlib.Core.Bool.{not}
use Rattle.bytewise.proofs.front.put_owed.Goals as goal

pub returns-then-not-continues : goal.returns-then-not-continues
returns-then-not-continues c = owed_none c.args.s.now c.args.out.now _ _ c.continues.ensures (ap not c.if-not-continues.true)

pub returns-then-not-continues-2 : goal.returns-then-not-continues-2
returns-then-not-continues-2 c =
    owed_one c.args.s.now c.args.out.now _ _ _ (omega (arith, c.requires)) c.continues.ensures (ap not c.if-not-continues.false) c.continues-2.ensures (ap not c.if-not-continues-2.true)

pub bounds-out-at-2 : goal.bounds-out-at-2
bounds-out-at-2 c = simp length-set (omega (arith, c.requires))

pub returns : goal.returns
returns c =
    owed_two c.args.s.now c.args.out.now _ _ _ c.requires.0 c.continues.ensures (ap not c.if-not-continues.false) c.continues-2.ensures (ap not c.if-not-continues-2.false)
