-- Few bytes tell it, or it is stripped and read (Solid).
use Rattle.tsv8_cells.proofs.Solid.{run_in}
use Rattle.tsv8_cells.proofs.cells.read.Goals as goal

pub returns-in-Some : goal.returns-in-Some
returns-in-Some c = c.in-Some.ensures _

pub cell_at-cell-requires : goal.cell_at-cell-requires
cell_at-cell-requires c =
    let i = run_in c.args.text.now c.args.q _ c.requires.1 c.cell_end-span.ensures.end in (c.requires.0, i.0, i.1, c.cell_end-span.ensures.plain)

pub returns : goal.returns
returns c = record { end = c.cell_end-span.ensures.end; told = c.cell_at-cell.ensures }
