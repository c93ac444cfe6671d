-- Eight stores one behind another are one store of eight bytes (Stores).
use native.Mathlib.Omega.{arith}
use mathlib.Core.Path.{refl}
use lib.ListN.{length-set}
use Rattle.eights.proofs.Stores.{eight_stored}
use Rattle.eights.proofs.copy.Goals as goal

pub bounds-out-o : goal.bounds-out-o
bounds-out-o c = omega (arith, c.requires)

pub bounds-out-o-2 : goal.bounds-out-o-2
bounds-out-o-2 c = simp length-set (omega (arith, c.requires))

pub bounds-out-o-3 : goal.bounds-out-o-3
bounds-out-o-3 c = simp length-set (omega (arith, c.requires))

pub bounds-out-o-4 : goal.bounds-out-o-4
bounds-out-o-4 c = simp length-set (omega (arith, c.requires))

pub bounds-out-o-5 : goal.bounds-out-o-5
bounds-out-o-5 c = simp length-set (omega (arith, c.requires))

pub bounds-out-o-6 : goal.bounds-out-o-6
bounds-out-o-6 c = simp length-set (omega (arith, c.requires))

pub bounds-out-o-7 : goal.bounds-out-o-7
bounds-out-o-7 c = simp length-set (omega (arith, c.requires))

pub bounds-out-o-8 : goal.bounds-out-o-8
bounds-out-o-8 c = simp length-set (omega (arith, c.requires))

pub shape_of-out : goal.shape_of-out
shape_of-out c = simp length-set refl

pub returns : goal.returns
returns c = eight_stored c.args.s.now c.args.out.now _ _ c.requires.0
