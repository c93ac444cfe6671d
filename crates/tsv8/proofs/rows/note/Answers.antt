-- What stands before the first tab decides the line's sort, and its count comes first (LineTexts).
use native.Mathlib.Omega.{arith}
use Rattle.tsv8_cells.proofs.Places.{cell_ended}
use Rattle.tsv8.proofs.LineTexts.{note_count, note_behind, note_typing, note_other}
use Rattle.tsv8.proofs.rows.note.Goals as goal

pub tabs-requires : goal.tabs-requires
tabs-requires c = cell_ended _ _ _ (omega (arith, c.requires.0)) c.end_from-q.ensures

pub returns-then-tabs-n : goal.returns-then-tabs-n
returns-then-tabs-n c = λ ts m l. note_count _ _ c.requires.0 _ ts m c.requires.1 _ c.end_from-q.ensures _ _ c.tabs.ensures l c.if-tabs-n.true _ c.at.ensures

pub returns-then-behind : goal.returns-then-behind
returns-then-behind c = λ ts m l. note_behind _ _ c.requires.0 _ ts m c.requires.1 _ c.end_from-q.ensures _ _ c.tabs.ensures l (omega arith) c.if-behind.true _ c.at-then-behind.ensures

pub slice_bounds-same-end : goal.slice_bounds-same-end
slice_bounds-same-end c = omega (arith, (cell_ended c.args.text.now c.args.at _ (omega (arith, c.requires.0)) c.end_from-q.ensures).0)

pub returns-then-same : goal.returns-then-same
returns-then-same c =
    λ ts m l. note_typing _ _ c.requires.0 _ ts m c.requires.1 _ c.end_from-q.ensures _ _ c.tabs.ensures l (omega arith) c.if-behind.false _ c.same.ensures c.if-same.true _ c.at-then-same.ensures

pub lf_from-requires : goal.lf_from-requires
lf_from-requires c = omega (arith, (cell_ended c.args.text.now c.args.at _ (omega (arith, c.requires.0)) c.end_from-q.ensures).0)

pub returns : goal.returns
returns c =
    λ ts m l. note_other _ _ c.requires.0 _ ts m c.requires.1 _ c.end_from-q.ensures _ _ c.tabs.ensures l (omega arith) c.if-behind.false _ c.same.ensures _ c.if-same.false c.lf_from.ensures
