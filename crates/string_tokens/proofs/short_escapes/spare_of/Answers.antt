-- By the length of the code point's pattern (Numbers).
use Rattle.string_tokens.proofs.Numbers.{spare_one, spare_two, spare_three, spare_four}
use Rattle.string_tokens.proofs.short_escapes.spare_of.Goals as goal

pub returns-then-v-lt128 : goal.returns-then-v-lt128
returns-then-v-lt128 c = search spare_one

pub returns-then-v-lt2048 : goal.returns-then-v-lt2048
returns-then-v-lt2048 c = search spare_two

pub returns-then-v-lt65536 : goal.returns-then-v-lt65536
returns-then-v-lt65536 c = search spare_three

pub returns : goal.returns
returns c = search spare_four
