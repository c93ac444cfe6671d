-- By the division: six times the bytes and two more are enough.
use mathlib.Core.Bool.{Bool, true, false}
use mathlib.Core.Path.{◌≡◌}
use Prim.Native.Nat.{◌-◌, ◌/◌, ◌≤◌}
use native.Mathlib.Omega.{arith}
use borrow.Author.Tests.{leb-true}
use Rattle.prelude.proofs.Cases.{never}
use Rattle.strings_write.proofs.write.ample.Goals as goal

pub returns-then-buffer-room : goal.returns-then-buffer-room
returns-then-buffer-room c = λ e. let z : ◌≡◌ {A = Bool} false true = e in never cc

pub returns-then-room-lt2 : goal.returns-then-room-lt2
returns-then-room-lt2 c = λ e. let z : ◌≡◌ {A = Bool} false true = e in never cc

pub returns : goal.returns
returns c = λ e. let h : c.args.n ≤ (c.args.room - 2) / 6 = leb-true _ _ e in (omega arith, c.if-buffer-room.false)
