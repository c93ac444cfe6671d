use native.Mathlib.Omega.{arith}
use Rattle.tsv8.proofs.Filling.{normal, writing_none, table_long, store_long, row_put, cell_fits, writing_more}
use Rattle.tsv8.proofs.stores.put_row.Goals as goal

pub loop-k-init : goal.loop-k-init
loop-k-init c = writing_none _ _ _ _ _ _ _ _ c.requires.4 (normal _ _ _ _ _ c.requires.6) c.requires.5 c.requires.1 c.requires.2

pub overflow_add-i : goal.overflow_add-i
overflow_add-i c =
    omega (arith, (cell_fits _ _ _ _ _ _ _ _ c.requires.4 (normal _ _ _ _ _ c.requires.6) c.requires.5 _ _ _ _ _ c.loop-k.invariant c.loop-k-test.true).1.1.0)

pub put_cell-moved-requires : goal.put_cell-moved-requires
put_cell-moved-requires c =
    let v = cell_fits _ _ _ _ _ _ _ _ c.requires.4 (normal _ _ _ _ _ c.requires.6) c.requires.5 _ _ _ _ _ c.loop-k.invariant c.loop-k-test.true in (c.requires.0, v.0, v.1.0, v.1.1.0, v.1.1.1)

pub loop-k-preserved : goal.loop-k-preserved
loop-k-preserved c =
    writing_more _ _ _ _ _ _ _ _ c.requires.4 (normal _ _ _ _ _ c.requires.6) c.requires.5 _ _ _ _ _ c.loop-k.invariant c.loop-k-test.true _ _ _ _ (c.put_cell-moved.ensures.end, (c.put_cell-moved.ensures.count, (c.put_cell-moved.ensures.cells, c.put_cell-moved.ensures.bytes)))

pub shape_of-table : goal.shape_of-table
shape_of-table c = table_long _ _ _ _ _ _ _ _ c.requires.4 (normal _ _ _ _ _ c.requires.6) c.requires.5 _ _ _ _ _ c.loop-k.invariant

pub shape_of-store : goal.shape_of-store
shape_of-store c = store_long _ _ _ _ _ _ _ _ c.requires.4 (normal _ _ _ _ _ c.requires.6) c.requires.5 _ _ _ _ _ c.loop-k.invariant

pub returns : goal.returns
returns c =
    let r = row_put _ _ _ _ _ _ _ _ c.requires.4 (normal _ _ _ _ _ c.requires.6) c.requires.5 _ _ _ _ _ c.loop-k.invariant c.loop-k-test.false in record { end = r.0; count = r.1.0; cells = r.1.1.0; bytes = r.1.1.1 }
