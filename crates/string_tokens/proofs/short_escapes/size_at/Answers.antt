-- A letter's escape, or the length of a code point's pattern (Numbers).
use native.Mathlib.Omega.{arith}
use Rattle.string_tokens.proofs.Numbers.{pair_size, point_size}
use Rattle.string_tokens.proofs.short_escapes.size_at.Goals as goal

pub returns-in-Some : goal.returns-in-Some
returns-in-Some c = pair_size _ c.args.s.now _ c.requires (omega (arith, c.if-s-at-lt2.false)) c.if-s-at-ne92.false _ c.in-Some.ensures.1 (λ z. omega (arith, c.in-Some.ensures.0))

pub returns : goal.returns
returns c = point_size _ _ _ _ _ c.in_ok-v.ensures.1 c.len_of.ensures c.spare_of.ensures
