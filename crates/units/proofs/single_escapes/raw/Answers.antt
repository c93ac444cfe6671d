-- Two digits denote one byte (SingleLaws).
use native.Mathlib.Omega.{arith}
use Rattle.units.proofs.SingleLaws.{two_raw}
use Rattle.units.proofs.single_escapes.raw.Goals as goal

pub returns : goal.returns
returns c = (omega arith, search two_raw)
