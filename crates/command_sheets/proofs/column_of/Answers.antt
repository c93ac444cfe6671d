-- A remainder is less than what divides.
use mathlib.Core.Path.{refl}
use native.Mathlib.Nat.{mod-lt}
use Rattle.command_sheets.proofs.column_of.Goals as goal

pub returns : goal.returns
returns c = (refl, mod-lt c.args.k c.requires)
