use native.Mathlib.Omega.{arith}
use Rattle.tsv8_cells.proofs.Places.{tab_starts}
use Rattle.tsv8.proofs.Filling.{normal, spreading_none, spread_table, spread_store, spread_end, line_within, spread_skip, row_due, row_fits, spread_more, rows_few}
use Rattle.tsv8.proofs.stores.put_lines.Goals as goal

pub loop-at-init : goal.loop-at-init
loop-at-init c = spreading_none _ _ _ _ _ _ _ c.requires.3 (normal _ _ _ _ _ c.requires.4) c.requires.1

pub overflow_add-at : goal.overflow_add-at
overflow_add-at c =
    omega (arith, c.lf_from-at.ensures, line_within _ _ _ _ _ _ _ c.requires.3 (normal _ _ _ _ _ c.requires.4) _ _ _ _ _ c.loop-at.invariant c.loop-at-test.true, c.requires.0)

pub loop-at-preserved-then-text-at-ne9 : goal.loop-at-preserved-then-text-at-ne9
loop-at-preserved-then-text-at-ne9 c =
    spread_skip _ _ _ _ _ _ _ c.requires.3 (normal _ _ _ _ _ c.requires.4) _ _ _ _ _ c.loop-at.invariant c.loop-at-test.true _ c.if-text-at-ne9.true c.lf_from-at.ensures

pub put_row-moved-requires : goal.put_row-moved-requires
put_row-moved-requires c =
    (c.requires.0, omega arith, tab_starts _ _ c.loop-at-test.true (omega arith), c.requires.2, c.requires.3, row_due _ _ _ _ _ _ _ c.requires.3 (normal _ _ _ _ _ c.requires.4) _ _ _ _ _ c.loop-at.invariant c.loop-at-test.true (omega arith), row_fits _ _ _ _ _ _ _ c.requires.3 (normal _ _ _ _ _ c.requires.4) _ _ _ _ _ c.loop-at.invariant c.loop-at-test.true (omega arith))

pub overflow_add-at-in-loop-at : goal.overflow_add-at-in-loop-at
overflow_add-at-in-loop-at c =
    omega (arith, c.put_row-moved.ensures.end, line_within _ _ _ _ _ _ _ c.requires.3 (normal _ _ _ _ _ c.requires.4) _ _ _ _ _ c.loop-at.invariant c.loop-at-test.true, c.requires.0)

pub overflow_add-i : goal.overflow_add-i
overflow_add-i c = omega (arith, rows_few _ _ _ _ _ _ _ c.requires.3 (normal _ _ _ _ _ c.requires.4) _ _ _ _ _ c.loop-at.invariant c.loop-at-test.true (omega arith))

pub loop-at-preserved : goal.loop-at-preserved
loop-at-preserved c =
    spread_more _ _ _ _ _ _ _ c.requires.3 (normal _ _ _ _ _ c.requires.4) _ _ _ _ _ c.loop-at.invariant c.loop-at-test.true (omega arith) _ _ _ _ (c.put_row-moved.ensures.end, (c.put_row-moved.ensures.count, (c.put_row-moved.ensures.cells, c.put_row-moved.ensures.bytes)))

pub shape_of-table : goal.shape_of-table
shape_of-table c = spread_table _ _ _ _ _ _ _ c.requires.3 (normal _ _ _ _ _ c.requires.4) _ _ _ _ _ c.loop-at.invariant

pub shape_of-store : goal.shape_of-store
shape_of-store c = spread_store _ _ _ _ _ _ _ c.requires.3 (normal _ _ _ _ _ c.requires.4) _ _ _ _ _ c.loop-at.invariant

pub returns : goal.returns
returns c =
    let r = spread_end _ _ _ _ _ _ _ c.requires.3 (normal _ _ _ _ _ c.requires.4) _ _ _ _ _ c.loop-at.invariant c.loop-at-test.false in record { cells = r.0; bytes = r.1 }
