-- By the column's type.
use Rattle.tsv8_cells.proofs.simple.simple.Goals as goal

pub returns-in-Str : goal.returns-in-Str
returns-in-Str c = rw c.in-Str.is c.of_str.ensures

pub returns-in-Int : goal.returns-in-Int
returns-in-Int c = rw c.in-Int.is c.of_int.ensures

pub returns-in-Bool : goal.returns-in-Bool
returns-in-Bool c = rw c.in-Bool.is c.of_bool.ensures

pub returns-in-Float : goal.returns-in-Float
returns-in-Float c = rw c.in-Float.is c.of_float.ensures
