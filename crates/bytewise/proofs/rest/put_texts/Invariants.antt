-- The invariant: the text of the bytes before a place is stored (ByteTexts).
use Prim.Native.Nat.{◌-◌, ◌≤◌}
use lib.ListN.{length}
use Rattle.bytewise.specs.inner.Bytewise.{Texted}
use Rattle.bytewise.proofs.rest.put_texts.Given as goal

abbrev pub invariant-loop-at : goal.invariant-loop-at
invariant-loop-at l =
    (l.from ≤ l.at) × (l.at ≤ length l.s) × Texted l.s l.from l.at l.start l.initial.out l.o l.out

abbrev pub decreases-loop-at : goal.decreases-loop-at
decreases-loop-at l =
    length l.s - l.at
