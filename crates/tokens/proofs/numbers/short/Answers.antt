-- The run of digits ends in the first eight bytes (Shorts).
use mathlib.Core.Path.{sym, ◌∙◌}
use native.Mathlib.Omega.{arith}
use Prim.Native.Nat.{◌+◌}
use lib.ListN.{get_or}
use Rattle.eights.specs.inner.Words.{is_other}
use Rattle.tokens.proofs.Shorts.{zero_told, digits_told}
use Rattle.tokens.proofs.numbers.short.Goals as goal

pub returns-else-k-ne1 : goal.returns-else-k-ne1
returns-else-k-ne1 c =
    zero_told c.args.s.now c.args.from _ _ c.requires.1 c.requires.2 (omega (arith, c.requires.0, c.if-s-from-lt8.false)) (c.place-k.ensures (λ j. is_other (get_or c.args.s.now (c.args.from + j) 0)) (c.others.ensures (λ j. get_or c.args.s.now (c.args.from + j) 0) c.eight.ensures.1 c.eight.ensures.0)) _ c.byte_at.ensures (sym c.is_number.ensures ∙ c.if-is_number.false) c.if-x-eq48.true c.if-k-ne1.false

pub returns-else-x-eq48 : goal.returns-else-x-eq48
returns-else-x-eq48 c =
    digits_told c.args.s.now c.args.from _ _ c.requires.1 c.requires.2 (omega (arith, c.requires.0, c.if-s-from-lt8.false)) (c.place-k.ensures (λ j. is_other (get_or c.args.s.now (c.args.from + j) 0)) (c.others.ensures (λ j. get_or c.args.s.now (c.args.from + j) 0) c.eight.ensures.1 c.eight.ensures.0)) _ c.byte_at.ensures (sym c.is_number.ensures ∙ c.if-is_number.false) c.if-x-eq48.false
