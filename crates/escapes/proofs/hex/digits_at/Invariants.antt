-- The invariant `Kept`: the digits so far and their number, and the rest still to be read (HexLaws).
use Prim.Native.Nat.{◌-◌}
use lib.ListN.{drop}
use Rattle.escapes.proofs.HexLaws.{Kept}
use Rattle.escapes.proofs.hex.digits_at.Given as goal

abbrev pub invariant-loop-count : goal.invariant-loop-count
invariant-loop-count l =
    Kept l.most (drop l.at l.s) l.count l.value

abbrev pub decreases-loop-count : goal.decreases-loop-count
decreases-loop-count l =
    l.most - l.count
