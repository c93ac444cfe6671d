-- A quotient is no greater than what is divided.
use native.Mathlib.Nat.{div-le_self}
use native.Mathlib.Omega.{arith}
use Rattle.command_sheets.proofs.row_of.Goals as goal

pub overflow_add-result : goal.overflow_add-result
overflow_add-result c = omega (arith, c.requires, div-le_self c.args.k c.args.columns)
