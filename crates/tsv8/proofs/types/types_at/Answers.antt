-- The mark and the count decide whether the line gives types (TypeTexts).
use native.Mathlib.Omega.{arith}
use Rattle.line_ends.proofs.Ends.{run_inside}
use Rattle.tsv8_cells.proofs.Places.{cell_ended}
use Rattle.tsv8.proofs.TypeTexts.{no_line, no_mark, no_count, types_line}
use Rattle.tsv8.proofs.types.types_at.Goals as goal

pub returns-then-text-at : goal.returns-then-text-at
returns-then-text-at c = λ ns bs l. no_line _ _ _ _ c.requires.4 c.requires.5 c.requires.1 ns bs l c.if-text-at.true

pub slice_bounds-same-end : goal.slice_bounds-same-end
slice_bounds-same-end c = omega (arith, (cell_ended c.args.text.now c.args.at _ (omega (arith, c.if-text-at.false)) c.end_from-q.ensures).0)

pub returns-then-not-same : goal.returns-then-not-same
returns-then-not-same c =
    λ ns bs l. no_mark _ _ _ _ c.requires.4 c.requires.5 c.requires.1 ns bs l c.if-text-at.false c.requires.2 _ c.end_from-q.ensures _ c.same.ensures (c.if-not-same.true)

pub tabs-requires : goal.tabs-requires
tabs-requires c = cell_ended _ _ _ (omega (arith, c.if-text-at.false)) c.end_from-q.ensures

pub returns-then-tabs-n : goal.returns-then-tabs-n
returns-then-tabs-n c =
    λ ns bs l. no_count _ _ _ _ c.requires.4 c.requires.5 c.requires.1 ns bs l c.if-text-at.false c.requires.2 _ c.end_from-q.ensures _ c.same.ensures _ c.tabs.ensures c.if-tabs-n.true

pub types_from-requires : goal.types_from-requires
types_from-requires c =
    let i = cell_ended c.args.text.now c.args.at _ (omega (arith, c.if-text-at.false)) c.end_from-q.ensures in (c.requires.0, i.0, i.1, omega (arith, c.tabs.ensures), c.requires.3, c.requires.4)

pub returns : goal.returns
returns c =
    λ ns bs l. types_line _ _ _ _ c.requires.4 c.requires.5 c.requires.1 ns bs l c.if-text-at.false c.requires.2 _ c.end_from-q.ensures _ c.same.ensures _ c.tabs.ensures (c.if-not-same.false) (omega arith) _ _ c.types_from.ensures (run_inside c.args.text.now _ (cell_ended c.args.text.now c.args.at _ (omega (arith, c.if-text-at.false)) c.end_from-q.ensures).0)
