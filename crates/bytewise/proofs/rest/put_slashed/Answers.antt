-- The byte over a backslash or behind it, by its class (ByteTexts).
use native.Mathlib.Omega.{arith}
use mathlib.Core.Path.{refl}
use lib.ListN.{length-set}
use Rattle.bytewise.proofs.ByteTexts.{text_stored, slash_within, slash_class, class_few}
use Rattle.bytewise.proofs.rest.put_slashed.Goals as goal

pub slashes-requires : goal.slashes-requires
slashes-requires c = class_few _ _ c.class.ensures

pub overflow_add-e : goal.overflow_add-e
overflow_add-e c = omega (arith, slash_within _ _ c.slashes.ensures)

pub bounds-out-e : goal.bounds-out-e
bounds-out-e c = simp length-set (omega (arith, slash_within _ _ c.slashes.ensures))

pub overflow_add-result : goal.overflow_add-result
overflow_add-result c = omega (arith, slash_within _ _ c.slashes.ensures)

pub shape_of-out : goal.shape_of-out
shape_of-out c = simp length-set refl

pub returns : goal.returns
returns c = text_stored _ _ _ c.args.out.now c.requires.0 (slash_class _ _ _ c.class.ensures c.slashes.ensures)
