-- Four digits of a number below 0x80 denote one byte (SingleLaws).
use native.Mathlib.Omega.{arith}
use Rattle.units.proofs.SingleLaws.{four_ascii}
use Rattle.units.proofs.single_escapes.ascii_number.Goals as goal

pub returns : goal.returns
returns c = (omega arith, search four_ascii)
