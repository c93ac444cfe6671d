-- The stripped text is a part of the cell (TypeTexts).
use native.Mathlib.Omega.{arith}
use Rattle.lines.proofs.LineEnds.{strip_inside}
use Rattle.tsv8_cells.proofs.Stripped.{lead_in}
use Rattle.tsv8.proofs.TypeTexts.{named_part}
use Rattle.tsv8.proofs.types.named_in.Goals as goal

pub slice_bounds-trim-count : goal.slice_bounds-trim-count
slice_bounds-trim-count c = omega (arith, lead_in _ _ c.lead-a.ensures)

pub slice_bounds-trim-start : goal.slice_bounds-trim-start
slice_bounds-trim-start c = omega (arith, lead_in _ _ c.lead-a.ensures)

pub overflow_add-a : goal.overflow_add-a
overflow_add-a c = omega (arith, (strip_inside c.args.c.now _ _ c.lead-a.ensures c.trim-n.ensures).1)

pub slice_bounds-named-end : goal.slice_bounds-named-end
slice_bounds-named-end c = omega (arith, (strip_inside c.args.c.now _ _ c.lead-a.ensures c.trim-n.ensures).1)

pub returns : goal.returns
returns c = named_part _ _ _ _ c.lead-a.ensures c.trim-n.ensures c.named.ensures
