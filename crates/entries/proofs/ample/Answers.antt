-- 27 bytes and six for each.
use Prim.Native.Nat.{◌-◌, ◌/◌}
use mathlib.Core.Bool.{Bool, true, false}
use mathlib.Core.Path.{◌≡◌}
use native.Mathlib.Omega.{arith}
use borrow.Author.Tests.{leb-true}
use Rattle.prelude.proofs.Cases.{never}
use Rattle.entries.proofs.ample.Goals as goal

pub returns-then-room-lt27 : goal.returns-then-room-lt27
returns-then-room-lt27 c = λ e. let z : ◌≡◌ {A = Bool} false true = e in never cc

pub returns : goal.returns
returns c = λ e. omega (arith, leb-true c.args.size ((c.args.room - 27) / 6) e)
