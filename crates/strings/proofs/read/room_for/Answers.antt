-- The lesser of the two numbers, or none where the place is past the end.
use native.Mathlib.Omega.{arith}
use Rattle.strings.proofs.read.room_for.Goals as goal

pub overflow_sub-length : goal.overflow_sub-length
overflow_sub-length c = omega arith

pub returns-then-o-length : goal.returns-then-o-length
returns-then-o-length c = c.least.ensures

pub returns : goal.returns
returns c = (omega arith, omega arith, λ h. omega arith, λ h. omega arith)
