-- A letter, or what `fill_number` stores (Filling).
use native.Mathlib.Omega.{arith}
use Rattle.string_tokens.proofs.Filling.{letter_filled}
use Rattle.string_tokens.proofs.fill.fill_escape.Goals as goal

pub returns-in-Some : goal.returns-in-Some
returns-in-Some c = letter_filled _ c.args.s.now _ _ c.args.out.now _ _ _ c.requires.1 c.byte_at.ensures c.in-Some.ensures.1 (λ z. omega (arith, c.in-Some.ensures.0)) c.put.ensures
