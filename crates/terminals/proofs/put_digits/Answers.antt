-- One digit behind another (Puts).
use Prim.Native.Nat.{ℕ}
use mathlib.Core.List.{[], ◌∷◌}
use mathlib.Core.Path.{sym, ap}
use Rattle.rooms.proofs.Puts.{put_then, put_as}
use Rattle.terminals.proofs.put_digits.Goals as goal

pub returns : goal.returns
returns c =
    put_then (put_as (ap (λ (d : ℕ). d ∷ []) (sym c.hex_digit.ensures)) c.put_byte-p.ensures) (put_as (ap (λ (d : ℕ). d ∷ []) (sym c.hex_digit-2.ensures)) c.put_byte.ensures)
