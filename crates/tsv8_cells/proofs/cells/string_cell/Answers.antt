-- What the text is decides its cell (CellTexts).
use native.Mathlib.Omega.{arith}
use Rattle.tsv8_cells.proofs.CellTexts.{text_plain, fault_inside, str_bare, str_plain, str_slashed, any_faulty}
use Rattle.tsv8_cells.proofs.cells.string_cell.Goals as goal

pub overflow_add-p : goal.overflow_add-p
overflow_add-p c = record { fits = omega (arith, fault_inside _ _ c.in-Err.ensures, c.requires.2) }

pub overflow_add-result : goal.overflow_add-result
overflow_add-result c = record { fits = omega (arith, (text_plain _ _ c.in-Ok.ensures _ c.in-Plain.is).inside, c.requires.2) }

pub overflow_add-result-in-Plain : goal.overflow_add-result-in-Plain
overflow_add-result-in-Plain c = record { fits = omega (arith, (text_plain _ _ c.in-Ok.ensures _ c.in-Plain.is).inside, c.requires.2) }

pub overflow_sub-result : goal.overflow_sub-result
overflow_sub-result c = omega (arith, (text_plain _ _ c.in-Ok.ensures _ c.in-Plain.is).inside, c.requires.2)

pub returns-in-Err : goal.returns-in-Err
returns-in-Err c = any_faulty _ _ c.in-Err.ensures _ _ _ _ _ c.at.ensures

pub returns-in-Bare : goal.returns-in-Bare
returns-in-Bare c = str_bare _ _ c.in-Ok.ensures _ _ _ c.in-Bare.is

pub returns-in-Plain : goal.returns-in-Plain
returns-in-Plain c = str_plain _ _ c.in-Ok.ensures _ _ _ _ c.in-Plain.is

pub returns-in-Slashed : goal.returns-in-Slashed
returns-in-Slashed c = str_slashed _ _ c.in-Ok.ensures _ _ _ _ c.in-Slashed.is
