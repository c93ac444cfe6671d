-- The stripped text is a part of the cell (Stripped).
use native.Mathlib.Omega.{arith}
use Rattle.tsv8_cells.proofs.Stripped.{lead_in, ends_in, cell_long, asks, cell_empty, stays_plain, told_whole}
use Rattle.tsv8_cells.proofs.cells.cell_at.Goals as goal

pub slice_bounds-trim-count : goal.slice_bounds-trim-count
slice_bounds-trim-count c = omega (arith, lead_in _ _ c.lead-a.ensures)

pub slice_bounds-trim-start : goal.slice_bounds-trim-start
slice_bounds-trim-start c = omega (arith, lead_in _ _ c.lead-a.ensures)

pub returns-then-n-eq0 : goal.returns-then-n-eq0
returns-then-n-eq0 c = cell_empty _ _ _ c.lead-a.ensures c.trim-n.ensures _ _ _ _ c.if-n-eq0.true _ c.at.ensures

pub overflow_add-a : goal.overflow_add-a
overflow_add-a c = omega (arith, (ends_in _ _ _ c.requires.1 c.requires.2 _ _ c.lead-a.ensures c.trim-n.ensures).1)

pub slice_bounds-typed_cell-end : goal.slice_bounds-typed_cell-end
slice_bounds-typed_cell-end c =
    omega (arith, (ends_in _ _ _ c.requires.1 c.requires.2 _ _ c.lead-a.ensures c.trim-n.ensures).1, cell_long c.args.text.now c.args.q c.args.e c.requires.1 c.requires.2)

pub overflow_add-q : goal.overflow_add-q
overflow_add-q c = omega (arith, (ends_in _ _ _ c.requires.1 c.requires.2 _ _ c.lead-a.ensures c.trim-n.ensures).1)

pub typed_cell-requires : goal.typed_cell-requires
typed_cell-requires c =
    let i = asks c.args.text.now c.args.q c.args.e c.requires.1 c.requires.2 _ _ c.lead-a.ensures c.trim-n.ensures c.if-n-eq0.false c.requires.0 in (i.0, c.in_default.not-Str, i.1)

pub returns-in_default : goal.returns-in_default
returns-in_default c = told_whole _ _ _ c.requires.1 c.requires.2 _ _ _ _ _ c.lead-a.ensures c.trim-n.ensures (c.typed_cell.ensures _)

pub slice_bounds-string_cell-end : goal.slice_bounds-string_cell-end
slice_bounds-string_cell-end c =
    omega (arith, (ends_in _ _ _ c.requires.1 c.requires.2 _ _ c.lead-a.ensures c.trim-n.ensures).1, cell_long c.args.text.now c.args.q c.args.e c.requires.1 c.requires.2)

pub string_cell-requires : goal.string_cell-requires
string_cell-requires c =
    let i = asks c.args.text.now c.args.q c.args.e c.requires.1 c.requires.2 _ _ c.lead-a.ensures c.trim-n.ensures c.if-n-eq0.false c.requires.0 in (i.0, stays_plain c.args.text.now c.args.q c.args.e c.requires.1 c.requires.2 _ _ c.lead-a.ensures c.trim-n.ensures _ c.requires.3, i.1)

pub returns-in-Str : goal.returns-in-Str
returns-in-Str c = rw c.in-Str.is (told_whole _ _ _ c.requires.1 c.requires.2 _ _ _ _ _ c.lead-a.ensures c.trim-n.ensures c.string_cell.ensures)

pub overflow_add-a-in_default : goal.overflow_add-a-in_default
overflow_add-a-in_default c = omega (arith, (ends_in _ _ _ c.requires.1 c.requires.2 _ _ c.lead-a.ensures c.trim-n.ensures).1)
