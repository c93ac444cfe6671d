-- The byte of a letter, or what `special` tells of the rest (SingleLaws).
use native.Mathlib.Omega.{arith}
use Rattle.units.proofs.SingleLaws.{letter_at, special_at}
use Rattle.units.proofs.single_escapes.single_at.Goals as goal

pub returns-in-Some : goal.returns-in-Some
returns-in-Some c =
    (omega arith, letter_at c.args.style c.args.s.now c.args.at c.requires c.in-Some.byte c.in-Some.ensures.1 (λ z. omega (arith, c.in-Some.ensures.0)))

pub returns : goal.returns
returns c = special_at c.args.style c.args.s.now c.args.at c.requires _ c.special.ensures
