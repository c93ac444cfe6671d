-- One node, by its kind (Spreading).
use mathlib.Core.Path.{sym, ◌∙◌}
use native.Mathlib.Omega.{arith}
use Rattle.json8_read.specs.inner.Spread.{node_of}
use Rattle.json8_read.proofs.Spreading.{six_room, six_small, six_asks, six_done, other_done}
use Rattle.json8_read.proofs.spread.spread_node.Goals as goal

pub slice_bounds-fill-end-then-kind_of-eq6 : goal.slice_bounds-fill-end-then-kind_of-eq6
slice_bounds-fill-end-then-kind_of-eq6 c = six_room _ (node_of c.args.v) _ _ _ _ c.requires (sym c.kind_of.ensures ∙ c.if-kind_of-eq6.true) _ (c.index.ensures ∙ c.size_of.ensures.0)

pub fill-requires : goal.fill-requires
fill-requires c =
    (six_asks _ (node_of c.args.v) _ _ _ _ c.requires (sym c.kind_of.ensures ∙ c.if-kind_of-eq6.true) _ (c.index.ensures ∙ c.size_of.ensures.0) _ (c.index-at.ensures ∙ c.place_of.ensures))

pub put_node-requires : goal.put_node-requires
put_node-requires c =
    let h = six_small _ (node_of c.args.v) _ _ _ _ c.requires (sym c.kind_of.ensures ∙ c.if-kind_of-eq6.true) _ (c.index.ensures ∙ c.size_of.ensures.0) in (c.requires.nodes, omega arith, omega arith, omega (arith, h, c.wide.ensures), omega (arith, c.size_of-then-kind_of-eq6.ensures.0, c.requires.sound.size))

pub returns-then-kind_of-eq6 : goal.returns-then-kind_of-eq6
returns-then-kind_of-eq6 c =
    let r = six_done c.args.text.now (node_of c.args.v) c.args.i c.args.m c.args.table.now c.args.store.now c.requires (sym c.kind_of.ensures ∙ c.if-kind_of-eq6.true) _ (c.index.ensures ∙ c.size_of.ensures.0) _ _ _ _ _ (c.index-at.ensures ∙ c.place_of.ensures) c.wide.ensures c.size_of-then-kind_of-eq6.ensures.0 c.put_node.ensures c.fill.ensures in record { count = r.0; nodes = r.1.0; bytes = r.1.1 }

pub returns : goal.returns
returns c =
    let r = other_done c.args.text.now (node_of c.args.v) c.args.i c.args.m c.args.table.now c.args.store.now c.requires _ _ _ _ _ (λ z. c.if-kind_of-eq6.false (c.kind_of.ensures ∙ z)) c.kind_of-2.ensures c.count_of.ensures c.place_of-2.ensures c.size_of-2.ensures.0 c.put_node-2.ensures in record { count = r.0; nodes = r.1.0; bytes = r.1.1 }
