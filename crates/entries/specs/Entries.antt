-- The lines that are printed for the strings of a backup and the cells of a log.
-- Assumes nothing.
use Rattle.std.specs.Prelude.{ℕ, Bool, List, ◌++◌}
use Rattle.prelude.specs.Bytes.{ascii}
use Rattle.prelude.specs.Pick.{pick}
use Rattle.strings_write.specs.Write.{write_string}
use Rattle.decimals.specs.Decimals.{decimal}

-- a byte string under a number, of its line or its node: the number, a tab, the J8 string, LF
unfoldable pub entry_text : ℕ → List ℕ → List ℕ
entry_text n s = decimal n ++ (ascii "\t" ++ (write_string s ++ ascii "\n"))

-- the value of a cell: a J8 string of its bytes, or the bytes of a number or `true` or `false` as they stand
unfoldable pub value_text : Bool → List ℕ → List ℕ
value_text quoted s = pick quoted (write_string s) s

-- a cell of a log: its row, a tab, the name of its column as a J8 string, a tab, its value, LF
unfoldable pub cell_text : ℕ → List ℕ → Bool → List ℕ → List ℕ
cell_text row name quoted value =
    decimal row ++ (ascii "\t" ++ (write_string name ++ (ascii "\t" ++ (value_text quoted value ++ ascii "\n"))))
