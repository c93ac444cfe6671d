-- One test, as in the definition (Numbers).
use mathlib.Core.Path.{sym}
use native.Mathlib.Omega.{arith}
use Rattle.string_tokens.proofs.Numbers.{six, twelve}
use Rattle.string_tokens.proofs.short_escapes.len_of.Goals as goal

pub returns-then-v-lt65536 : goal.returns-then-v-lt65536
returns-then-v-lt65536 c = sym (six _ c.if-v-lt65536.true)

pub returns-else-v-lt65536 : goal.returns-else-v-lt65536
returns-else-v-lt65536 c = sym (twelve _ (omega (arith, c.if-v-lt65536.false)))
