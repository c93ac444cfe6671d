-- Judged, and then stored at once, or measured first (Passes, WholeTables, Roominess).
use mathlib.Core.Path.{sym, ◌∙◌}
use native.Mathlib.Omega.{arith}
use Rattle.trees.specs.Tables.{nodes_in, tree_of}
use Rattle.rooms.proofs.Passes.{one_pass, too_long_lem, two_passes}
use Rattle.json8_fit.proofs.Roots.{root_count}
use Rattle.std.specs.Prelude.{Ok, Err}
use Rattle.prelude.specs.Refusals.{no_room}
use Rattle.json8_write.proofs.WholeTables.{wrote_unfit, wrote_fit}
use Rattle.json8_write.proofs.Roominess.{text_room}
use Rattle.json8_write.proofs.write.write.Goals as goal

pub returns-then-not-fit : goal.returns-then-not-fit
returns-then-not-fit c =
    let r = wrote_unfit (tree_of (nodes_in c.args.table.now) c.args.text.now c.args.store.now) c.args.out.now (sym c.fit.ensures ∙ c.if-not-fit.true) in record { answer = r.0; stored = r.1 }

pub room_of-requires : goal.room_of-requires
room_of-requires c = root_count c.args.table.now c.args.text.now c.args.store.now (sym c.fit.ensures ∙ c.if-not-fit.false) c.count_at.ensures.0

pub pass-requires : goal.pass-requires
pass-requires c = ((sym c.fit.ensures ∙ c.if-not-fit.false), omega arith)

pub returns-then-room_of-room : goal.returns-then-room_of-room
returns-then-room_of-room c =
    let r = wrote_fit (tree_of (nodes_in c.args.table.now) c.args.text.now c.args.store.now) c.args.out.now (sym c.fit.ensures ∙ c.if-not-fit.false) (one_pass Ok (Err no_room) _ c.args.out.now (text_room c.args.table.now c.args.text.now c.args.store.now (sym c.fit.ensures ∙ c.if-not-fit.false) c.count_at.ensures.0 c.room_of.ensures c.if-room_of-room.true) c.pass.ensures) in record { answer = r.0; stored = r.1 }

pub pass-n-requires : goal.pass-n-requires
pass-n-requires c = ((sym c.fit.ensures ∙ c.if-not-fit.false), omega arith)

pub returns-then-room-n : goal.returns-then-room-n
returns-then-room-n c =
    let r = wrote_fit (tree_of (nodes_in c.args.table.now) c.args.text.now c.args.store.now) c.args.out.now (sym c.fit.ensures ∙ c.if-not-fit.false) (too_long_lem Ok (Err no_room) _ c.args.out.now c.pass-n.new.out c.pass-n.auto.out c.pass-n.ensures c.if-room-n.true) in record { answer = r.0; stored = r.1 }

pub pass-requires-2 : goal.pass-requires-2
pass-requires-2 c = ((sym c.fit.ensures ∙ c.if-not-fit.false), omega arith)

pub returns : goal.returns
returns c =
    let r = wrote_fit (tree_of (nodes_in c.args.table.now) c.args.text.now c.args.store.now) c.args.out.now (sym c.fit.ensures ∙ c.if-not-fit.false) (two_passes Ok (Err no_room) _ c.args.out.now c.pass-n.new.out c.pass-n.auto.out c.pass-n.ensures c.if-room-n.false c.pass-2.ensures) in record { answer = r.0; stored = r.1 }
