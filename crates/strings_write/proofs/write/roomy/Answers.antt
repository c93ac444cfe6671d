-- A text is no longer than its form's longest escape for each byte, and its marks.
use native.Mathlib.Omega.{arith}
use Prim.Native.Nat.{◌-◌, ◌/◌, ◌≤◌}
use borrow.Author.Tests.{leb-true}
use Rattle.prelude.proofs.Cases.{never}
use Rattle.notation.specs.declared.styles.Form.TheVariants.{AsJson, AsBytes}
use Rattle.strings_write.proofs.Writing.{room_enough}
use Rattle.strings_write.proofs.write.roomy.Goals as goal

pub returns-then-room-lt3 : goal.returns-then-room-lt3
returns-then-room-lt3 c = λ e. never (cc)

pub returns-in-AsJson : goal.returns-in-AsJson
returns-in-AsJson c =
    λ e. let h : c.args.n ≤ (c.args.room - 2) / 6 = leb-true _ _ e in
    room_enough _ AsJson _ _ c.in-AsJson.is (omega arith)

pub returns-in-AsBytes : goal.returns-in-AsBytes
returns-in-AsBytes c =
    λ e. let h : c.args.n ≤ (c.args.room - 3) / 4 = leb-true _ _ e in
    room_enough _ AsBytes _ _ c.in-AsBytes.is (omega arith)
