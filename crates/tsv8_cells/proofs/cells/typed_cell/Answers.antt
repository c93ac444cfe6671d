-- What fits a type is plain; of anything else its own fault comes first (CellTexts).
use native.Mathlib.Omega.{arith}
use Rattle.tsv8_cells.proofs.CellTexts.{fault_inside, typed_got, unfit_text, any_faulty}
use Rattle.tsv8_cells.proofs.cells.typed_cell.Goals as goal

pub returns-in-Some : goal.returns-in-Some
returns-in-Some c = λ m. typed_got _ c.requires.0 _ _ _ m _ c.in-Some.ensures

pub overflow_add-p : goal.overflow_add-p
overflow_add-p c = record { fits = omega (arith, fault_inside _ _ c.in-Err.ensures, c.requires.2) }

pub returns-in-Ok : goal.returns-in-Ok
returns-in-Ok c = λ m. unfit_text _ c.requires.0 _ _ _ m _ c.in-Ok.ensures c.requires.1 c.in_default.ensures _ c.at.ensures

pub returns-in-Err : goal.returns-in-Err
returns-in-Err c = λ m. any_faulty _ _ c.in-Err.ensures _ _ _ m _ c.at-in-Err.ensures
