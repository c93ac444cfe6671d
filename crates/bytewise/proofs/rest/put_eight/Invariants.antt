-- The invariant: the text of the first k bytes is stored (ByteTexts).
use Prim.Native.Nat.{◌+◌, ◌-◌, ◌≤◌}
use Rattle.bytewise.specs.inner.Bytewise.{Texted}
use Rattle.bytewise.proofs.rest.put_eight.Given as goal

abbrev pub invariant-loop-k : goal.invariant-loop-k
invariant-loop-k l =
    (l.k ≤ 8) × Texted l.s l.from (l.from + l.k) l.start l.initial.out l.o l.out

abbrev pub decreases-loop-k : goal.decreases-loop-k
decreases-loop-k l =
    8 - l.k
