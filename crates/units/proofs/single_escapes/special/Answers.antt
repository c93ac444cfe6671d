-- Style by style, by the byte behind the backslash (SingleLaws).
use native.Mathlib.Omega.{arith}
use Rattle.units.proofs.SingleLaws.{by_number_lem, by_byte_lem, unicode_quote, bytes_quote}
use Rattle.units.proofs.single_escapes.special.Goals as goal

pub returns-then-c-eq117 : goal.returns-then-c-eq117
returns-then-c-eq117 c = by_number_lem c.args.style c.args.c _ _ c.in-Json.is c.if-c-eq117.true c.ascii_number.ensures

pub returns-then-c-eq39 : goal.returns-then-c-eq39
returns-then-c-eq39 c = (omega arith, search unicode_quote)

pub returns-then-c-eq121 : goal.returns-then-c-eq121
returns-then-c-eq121 c = by_byte_lem c.args.style c.args.c _ _ c.in-Bytes.is c.if-c-eq121.true c.raw.ensures

pub returns-then-c-eq39-2 : goal.returns-then-c-eq39-2
returns-then-c-eq39-2 c = (omega arith, search bytes_quote)
