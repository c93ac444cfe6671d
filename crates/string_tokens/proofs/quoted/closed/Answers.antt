-- A double quote behind plain bytes closes (Quoting).
use native.Mathlib.Omega.{arith}
use Rattle.string_tokens.proofs.Quoting.{closed_told}
use Rattle.string_tokens.proofs.quoted.closed.Goals as goal

pub returns-then-s-e-eq34 : goal.returns-then-s-e-eq34
returns-then-s-e-eq34 c = (omega arith, closed_told c.args.s.now _ c.requires.0 c.requires.1 c.requires.3 c.if-s-e-eq34.true)
