-- Each return by the part of the test that failed, or by all that hold (EscapeLaws).
use native.Mathlib.Omega.{arith}
use Rattle.escapes.proofs.EscapeLaws.{low_first, low_second, low_digits, low_under, low_over, low_yes}
use Rattle.escapes.proofs.low_half.Goals as goal

pub returns-then-byte_at-ne92 : goal.returns-then-byte_at-ne92
returns-then-byte_at-ne92 c = record { is = search low_first; half = tt }

pub returns-then-byte_at-ne117 : goal.returns-then-byte_at-ne117
returns-then-byte_at-ne117 c = record { is = search low_second; half = tt }

pub returns-then-n-ne4 : goal.returns-then-n-ne4
returns-then-n-ne4 c = record { is = search low_digits; half = tt }

pub returns-then-v-lt56320 : goal.returns-then-v-lt56320
returns-then-v-lt56320 c = record { is = search low_under; half = tt }

pub returns-then-v-le57343 : goal.returns-then-v-le57343
returns-then-v-le57343 c = record { is = search low_yes; half = (omega arith, omega arith) }

pub returns : goal.returns
returns c = record { is = search low_over; half = tt }
