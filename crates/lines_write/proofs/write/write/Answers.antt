-- Records that aren't right are refused first; then the first pass has no buffer, and what it measured is what the second stores (Passes).
use mathlib.Core.Path.{sym, ◌∙◌}
use native.Mathlib.Omega.{arith}
use Rattle.rooms.proofs.Passes.{too_long_lem, two_passes}
use Rattle.std.specs.Prelude.{Ok, Err}
use Rattle.prelude.specs.Refusals.{no_room}
use Rattle.lines_write.specs.Write.{lines_from}
use Rattle.lines_write.proofs.LineTexts.{not_right, all_right}
use Rattle.lines_write.proofs.write.write.Goals as goal

pub returns-then-not-right_records : goal.returns-then-not-right_records
returns-then-not-right_records c = let r = not_right c.args.records.now c.args.out.now _ c.right_records.ensures (c.if-not-right_records.true) in record { answer = r.0; stored = r.1 }

pub pass-n-requires : goal.pass-n-requires
pass-n-requires c = (sym c.right_records.ensures ∙ c.if-not-right_records.false, omega arith)

pub returns-then-room-n : goal.returns-then-room-n
returns-then-room-n c =
    let r = all_right c.args.records.now c.args.out.now _ c.right_records.ensures (c.if-not-right_records.false) (too_long_lem Ok (Err no_room) (lines_from 0 c.args.records.now) c.args.out.now c.pass-n.new.out c.pass-n.auto.out c.pass-n.ensures c.if-room-n.true) in record { answer = r.0; stored = r.1 }

pub pass-requires : goal.pass-requires
pass-requires c = (sym c.right_records.ensures ∙ c.if-not-right_records.false, omega arith)

pub returns : goal.returns
returns c =
    let r = all_right c.args.records.now c.args.out.now _ c.right_records.ensures (c.if-not-right_records.false) (two_passes Ok (Err no_room) (lines_from 0 c.args.records.now) c.args.out.now c.pass-n.new.out c.pass-n.auto.out c.pass-n.ensures c.if-room-n.false c.pass.ensures) in record { answer = r.0; stored = r.1 }
