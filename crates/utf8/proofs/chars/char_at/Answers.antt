-- The class of the byte, and then what has several bytes (CharSteps).
use native.Mathlib.Omega.{arith}
use Rattle.utf8.proofs.CharSteps.{at_end_lem, is_one}
use Rattle.utf8.proofs.chars.char_at.Goals as goal

pub returns-then-s-at : goal.returns-then-s-at
returns-then-s-at c = search at_end_lem

pub returns-then-k-lt5 : goal.returns-then-k-lt5
returns-then-k-lt5 c = search is_one

pub long_at-requires : goal.long_at-requires
long_at-requires c = (omega arith, c.class-k.ensures, omega arith)
