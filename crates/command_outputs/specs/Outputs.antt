-- What is printed of a J8 text: its bytes, or what a terminal is shown of them, which is put in a buffer first.
-- Assumes nothing.
use Rattle.std.specs.Prelude.{ℕ, Bool, true, List, leb, length}
use Rattle.prelude.specs.Pick.{pick}
use Rattle.strings_write.specs.Write.{wrote_into}
use Rattle.terminals.specs.Terminals.{safe_text}

-- what that buffer holds afterwards
unfoldable pub shown_in : Bool → List ℕ → List ℕ → List ℕ
shown_in terminal text shown = pick terminal (wrote_into (safe_text text) shown) shown

-- whether there is room to show it
unfoldable pub is_showable : Bool → List ℕ → ℕ → Bool
is_showable terminal text room = pick terminal (leb (length (safe_text text)) room) true
