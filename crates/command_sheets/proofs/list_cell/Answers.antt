-- The parts of the line, each as its function found it (Lines).
use Rattle.command_sheets.proofs.Lines.{line_told}
use Rattle.command_sheets.proofs.list_cell.Goals as goal

pub returns : goal.returns
returns c =
    line_told c.args.columns c.args.k c.args.text.now c.args.names.now c.args.cells.now c.args.store.now c.row_of-row.ensures c.column_of-column.ensures.0 c.bytes_from-name.ensures c.bytes_from-value.ensures c.is_string-quoted.ensures c.add_cell.ensures
