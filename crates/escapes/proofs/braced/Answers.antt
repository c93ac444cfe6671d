-- Each return by the part of the test that failed, or by all that hold (EscapeLaws).
use borrow.Author.Rules.{rules}
use Rattle.escapes.proofs.EscapeLaws.{brace_first, brace_under, brace_over, brace_last, brace_yes}
use Rattle.escapes.proofs.braced.Goals as goal

pub returns-then-byte_at-ne123 : goal.returns-then-byte_at-ne123
returns-then-byte_at-ne123 c = record { is = search brace_first; few = tt }

pub returns-then-n-lt1 : goal.returns-then-n-lt1
returns-then-n-lt1 c = record { is = search brace_under; few = tt }

pub returns-then-n-gt6 : goal.returns-then-n-gt6
returns-then-n-gt6 c = record { is = search brace_over; few = tt }

pub returns-then-byte_at-eq125 : goal.returns-then-byte_at-eq125
returns-then-byte_at-eq125 c = record { is = search brace_yes; few = search rules }

pub returns : goal.returns
returns c = record { is = search brace_last; few = tt }
