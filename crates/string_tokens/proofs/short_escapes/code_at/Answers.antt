-- The tests together tell the escape (Numbers).
use native.Mathlib.Omega.{arith}
use Rattle.string_tokens.proofs.Numbers.{code_is}
use Rattle.string_tokens.proofs.short_escapes.code_at.Goals as goal

pub returns : goal.returns
returns c =
    let p = code_is _ c.args.s.now _ _ c.quote_of.ensures c.if-quote_of-ne34.false (omega (arith, c.if-s-at-lt6.false)) c.requires c.if-s-at-ne92.false c.if-s-at-ne117.false _ _ c.digits_at-d.ensures.run c.digits_at-d.ensures.number c.if-n-ne4.false in
    (omega (arith, c.digits_at-d.ensures.below), p.0, p.1)
