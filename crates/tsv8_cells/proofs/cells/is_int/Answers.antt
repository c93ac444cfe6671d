-- Digits are a number unless a 0 stands before others (Numerals).
use Rattle.tsv8_cells.proofs.Numerals.{int_zero, int_other}
use Rattle.tsv8_cells.proofs.cells.is_int.Goals as goal

pub returns-then-w-eq48 : goal.returns-then-w-eq48
returns-then-w-eq48 c = int_zero _ c.requires c.if-w-eq48.true

pub returns : goal.returns
returns c = int_other _ _ c.requires c.if-w-eq48.false c.all_digits.ensures
