-- By where the number stands among the halves, and by the half behind it (Numbers).
use native.Mathlib.Omega.{arith}
use lib.ListN.{drop}
use Rattle.escapes.specs.Escapes.{low_half}
use Rattle.string_tokens.proofs.Numbers.{point_below, point_above, point_alone, point_two}
use Rattle.string_tokens.proofs.short_escapes.joined.Goals as goal

pub returns-then-v-lt55296 : goal.returns-then-v-lt55296
returns-then-v-lt55296 c = point_below _ (low_half (drop c.args.at c.args.s.now)) c.if-v-lt55296.true

pub returns-then-v-gt56319 : goal.returns-then-v-gt56319
returns-then-v-gt56319 c = point_above _ (low_half (drop c.args.at c.args.s.now)) c.requires.0 c.if-v-gt56319.true

pub returns-in-Some : goal.returns-in-Some
returns-in-Some c =
    point_two _ (low_half (drop c.args.at c.args.s.now)) _ (omega (arith, c.if-v-lt55296.false)) (omega (arith, c.if-v-gt56319.false)) c.low_half-half.ensures.is c.low_half-half.ensures.half _ c.in-Some.is

pub returns-in-None : goal.returns-in-None
returns-in-None c =
    point_alone _ (low_half (drop c.args.at c.args.s.now)) _ (omega (arith, c.if-v-lt55296.false)) (omega (arith, c.if-v-gt56319.false)) c.low_half-half.ensures.is c.in-None.is
