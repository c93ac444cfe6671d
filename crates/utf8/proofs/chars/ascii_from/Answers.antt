-- The bytes up to where blocks end are below DEL, and the last block reaches the end (Validity).
use native.Mathlib.Omega.{arith}
use mathlib.Core.Bool.{Bool, true, false, not}
use mathlib.Core.Path.{◌≡◌, ap}
use borrow.Author.Tests.{not-true}
use Rattle.prelude.proofs.Cases.{never}
use Rattle.utf8.proofs.Validity.{low_stuck, low_last}
use Rattle.utf8.proofs.chars.ascii_from.Goals as goal

pub returns-then-n-lt16 : goal.returns-then-n-lt16
returns-then-n-lt16 c = ((λ e. let z : ◌≡◌ {A = Bool} false true = e in never cc), λ l. absurd (omega (arith, l.enough)))

pub ascii_blocks-at-requires : goal.ascii_blocks-at-requires
ascii_blocks-at-requires c = (c.requires, omega arith)

pub returns-then-n-at-ge16 : goal.returns-then-n-at-ge16
returns-then-n-at-ge16 c =
    ((λ e. let z : ◌≡◌ {A = Bool} false true = e in never cc), λ l. absurd (low_stuck _ _ _ c.ascii_blocks-at.ensures (omega (arith, c.ascii_blocks-at.ensures.alike.inside)) l))

pub returns : goal.returns
returns c =
    ((λ e. low_last _ _ _ c.ascii_blocks-at.ensures (omega arith) (omega arith) (c.any_high.ensures.0 (not-true _ e))), λ l. ap not (c.any_high.ensures.1 l.last))
