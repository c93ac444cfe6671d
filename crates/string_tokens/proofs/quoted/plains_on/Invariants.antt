-- Eight bytes more, or the plain ones before the first that is odd (Counting).
use Prim.Native.Nat.{◌-◌}
use lib.ListN.{length}
use Rattle.string_tokens.specs.inner.Quotes.{Plains}
use Rattle.string_tokens.proofs.quoted.plains_on.Given as goal

abbrev pub invariant-loop-at : goal.invariant-loop-at
invariant-loop-at l =
    Plains l.s l.from l.at

abbrev pub decreases-loop-at : goal.decreases-loop-at
decreases-loop-at l =
    length l.s - l.at
