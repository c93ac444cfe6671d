-- Each claim of specs/Claims.antt, by the laws of its topic.
-- Assumes nothing.
use Rattle.entries.specs.Claims.{EntriesAreLines, CellsAreLines}
use Rattle.entries.proofs.Entries.{entry_line, cell_line}

pub entries_are_lines : EntriesAreLines
entries_are_lines = entry_line

pub cells_are_lines : CellsAreLines
cells_are_lines = cell_line
