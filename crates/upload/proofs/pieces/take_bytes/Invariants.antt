-- The invariant: what stands after i bytes is what the definition's steps give for them; a run and the byte behind it go on from there.
use Prim.Native.Nat.{◌-◌, ◌≤◌}
use mathlib.Core.Path.{◌≡◌}
use lib.ListN.{length, take}
use Rattle.upload.specs.Calls.{lent, feed_bytes}
use Rattle.upload.proofs.pieces.take_bytes.Given as goal

abbrev pub invariant-loop-s : goal.invariant-loop-s
invariant-loop-s l =
    (l.i ≤ length l.piece) × (lent l.s l.line l.out ≡ feed_bytes (lent l.initial.s l.initial.line l.initial.out) (take l.i l.piece))

abbrev pub decreases-loop-s : goal.decreases-loop-s
decreases-loop-s l =
    length l.piece - l.i
