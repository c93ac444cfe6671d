-- By the count of the digits, and by their number, which below the halves needs no look ahead (EscapeLaws).
use borrow.Author.Rules.{rules}
use Rattle.escapes.proofs.EscapeLaws.{four_not, four_below, four_inside, four_yes}
use Rattle.escapes.proofs.four_digits.Goals as goal

pub returns-then-n-ne4 : goal.returns-then-n-ne4
returns-then-n-ne4 c = record { is = search four_not; few = tt }

pub returns-then-v-lt55296 : goal.returns-then-v-lt55296
returns-then-v-lt55296 c = record { is = search four_below; few = search rules }

pub low_half-requires : goal.low_half-requires
low_half-requires c = search four_inside

pub returns : goal.returns
returns c = record { is = search four_yes; few = search rules }
