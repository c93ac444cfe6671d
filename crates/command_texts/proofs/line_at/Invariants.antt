-- The lines before it are passed one by one (TextLines).
use Prim.Native.Nat.{◌-◌}
use lib.ListN.{length}
use Rattle.command_texts.proofs.TextLines.{Looking}
use Rattle.command_texts.proofs.line_at.Given as goal

abbrev pub invariant-loop-i : goal.invariant-loop-i
invariant-loop-i l =
    Looking l.s l.n l.left l.i

abbrev pub decreases-loop-i : goal.decreases-loop-i
decreases-loop-i l =
    length l.s - l.i
