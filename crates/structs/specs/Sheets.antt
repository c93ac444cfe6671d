-- TSV8's struct of include/j8.h.
-- Assumes nothing.
use Rattle.std.specs.Prelude.{ℕ, Result, Ok, Err}
use Rattle.prelude.specs.declared.refusals.Refused.{Refused}
use Rattle.prelude.specs.Refusals.{number_of}
use Rattle.tsv8.specs.declared.answers.Sheet.{Sheet}
use Rattle.structs.specs.declared.sheets.J8Sheet.{J8Sheet}

-- a refusal by its number, whatever that is
abbrev pub unread : ℕ → ℕ → J8Sheet
unread number place = record { number = number; place = place; columns = 0; cells = 0; stored = 0 }

-- "number 0: done; place is 0, columns is how many names there are, and types, cells how many cells, a whole number of rows, and stored how
-- many bytes the store holds. Otherwise number is the refusal and place its place; columns, cells and stored are 0."
abbrev pub sheet_result : Result Sheet Refused → J8Sheet
sheet_result (Ok r) = record { number = 0; place = 0; columns = r.columns; cells = r.cells; stored = r.stored }
sheet_result (Err f) = record { number = number_of f.refusal; place = f.place; columns = 0; cells = 0; stored = 0 }
