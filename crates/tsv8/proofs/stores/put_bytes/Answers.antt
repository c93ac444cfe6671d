-- The stripped text is a part of the cell (Filling).
use native.Mathlib.Omega.{arith}
use Rattle.lines.proofs.LineEnds.{strip_inside}
use Rattle.tsv8_cells.proofs.Stripped.{lead_in}
use Rattle.tsv8.proofs.Filling.{fill_asks, filled_is}
use Rattle.tsv8.proofs.stores.put_bytes.Goals as goal

pub slice_bounds-trim-count : goal.slice_bounds-trim-count
slice_bounds-trim-count c = omega (arith, lead_in _ _ c.lead-a.ensures)

pub slice_bounds-trim-start : goal.slice_bounds-trim-start
slice_bounds-trim-start c = omega (arith, lead_in _ _ c.lead-a.ensures)

pub overflow_add-a : goal.overflow_add-a
overflow_add-a c = omega (arith, (strip_inside c.args.c.now _ _ c.lead-a.ensures c.trim-n.ensures).1)

pub slice_bounds-fill-end : goal.slice_bounds-fill-end
slice_bounds-fill-end c = omega (arith, (strip_inside c.args.c.now _ _ c.lead-a.ensures c.trim-n.ensures).1)

pub fill-requires : goal.fill-requires
fill-requires c = fill_asks _ _ _ _ c.lead-a.ensures c.trim-n.ensures c.requires

pub returns : goal.returns
returns c = filled_is _ _ _ _ c.lead-a.ensures c.trim-n.ensures c.fill.ensures
