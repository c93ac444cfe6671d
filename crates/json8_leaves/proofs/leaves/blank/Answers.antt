-- The blanks' answer is the step's.
use native.Mathlib.Omega.{arith}
use Rattle.json8_leaves.proofs.Single.{clear_step, clear_in, ill_step, ill_in}
use Rattle.json8_leaves.proofs.leaves.blank.Goals as goal

pub overflow_add-result : goal.overflow_add-result
overflow_add-result c = record { fits = omega (arith, clear_in c.args.text.now c.args.at _ c.skip.ensures _ c.in-Ok.is, c.requires.0, c.requires.1) }

pub overflow_add-at : goal.overflow_add-at
overflow_add-at c = record { fits = omega (arith, clear_in c.args.text.now c.args.at _ c.skip.ensures _ c.in-Ok.is, c.requires.0, c.requires.1) }

pub overflow_add-at-in-Err : goal.overflow_add-at-in-Err
overflow_add-at-in-Err c = record { fits = omega (arith, ill_in c.args.text.now c.args.at _ c.skip.ensures _ c.in-Err.is, c.requires.0, c.requires.1) }

pub returns-in-Ok : goal.returns-in-Ok
returns-in-Ok c = clear_step _ _ _ c.skip.ensures _ c.in-Ok.is _ c.byte_at.ensures

pub returns-in-Err : goal.returns-in-Err
returns-in-Err c = rw c.at.ensures (ill_step _ _ _ c.skip.ensures _ c.in-Err.is)
