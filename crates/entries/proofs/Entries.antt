-- What is printed is one line, and the room that it needs: by its parts.
-- Assumes nothing.
use Prim.Native.Nat.{ℕ, ◌+◌, ◌*◌, ◌≤◌}
use mathlib.Core.Bool.{Bool, true, false}
use mathlib.Core.List.{List, [], ◌∷◌, ◌++◌}
use mathlib.Core.Path.{◌≡◌, refl, sym, subst}
use native.Mathlib.Omega.{arith}
use lib.ListN.{length, length-append}
use Rattle.prelude.specs.Bytes.{ascii, LF}
use Rattle.prelude.proofs.Picks.{pick_case, pick_true, pick_false}
use Rattle.strings_write.specs.Write.{write_string}
use Rattle.string_claims.proofs.Claims.{written_length}
use Rattle.string_claims.proofs.Printed.{write_printed}
use Rattle.sentences.specs.Claims.{InOneLine}
use Rattle.decimals.specs.Decimals.{decimal}
use Rattle.decimals.proofs.Decimals.{decimal_length}
use Rattle.rooms.specs.inner.Puts.{Put}
use Rattle.messages.specs.Claims.{OneLine}
use Rattle.messages.proofs.OneLines.{plain_then, tab_then, digits_plain, as_printed}
use Rattle.entries.specs.Entries.{entry_text, value_text, cell_text}

pub entry_line : (n : ℕ) (s : List ℕ) → OneLine (entry_text n s)
unfolding entry_text
entry_line n s = plain_then (decimal n) _ (digits_plain 20 n) (tab_then (write_string s ++ (LF ∷ [])) (plain_then (write_string s) (LF ∷ []) (write_printed s) refl))

value_then : (quoted : Bool) (s b : List ℕ) → (quoted ≡ false → InOneLine s) → OneLine b → OneLine (value_text quoted s ++ b)
unfolding value_text
value_then quoted s b f o =
    pick_case (λ (t : List ℕ). OneLine (t ++ b)) quoted (write_string s) s (λ e. plain_then (write_string s) b (write_printed s) o) (λ e. plain_then s b (as_printed s (f e)) o)

pub cell_line : (row : ℕ) (name : List ℕ) (quoted : Bool) (value : List ℕ) → (quoted ≡ false → InOneLine value) → OneLine (cell_text row name quoted value)
unfolding cell_text
cell_line row name quoted value f =
    plain_then (decimal row) _ (digits_plain 20 row)
    (tab_then (write_string name ++ (ascii "\t" ++ (value_text quoted value ++ (LF ∷ []))))
    (plain_then (write_string name) _ (write_printed name) (tab_then (value_text quoted value ++ (LF ∷ [])) (value_then quoted value (LF ∷ []) f refl))))

-- a line has at most six bytes for each of its strings', and 27 more
pub entry_room : (n : ℕ) (s : List ℕ) (room : ℕ) → 6 * length s + 27 ≤ room → length (entry_text n s) ≤ room
unfolding entry_text
entry_room n s room h = omega (
  arith,
  length-append (decimal n) (ascii "\t" ++ (write_string s ++ ascii "\n")),
  length-append (write_string s) (ascii "\n"),
  decimal_length n,
  written_length s,
)

value_length : (quoted : Bool) (s : List ℕ) → length (value_text quoted s) ≤ 6 * length s + 2
unfolding value_text
value_length quoted s =
    pick_case (λ (t : List ℕ). length t ≤ 6 * length s + 2) quoted (write_string s) s (λ e. omega (arith, written_length s)) (λ e. omega arith)

pub cell_room : (row : ℕ) (name : List ℕ) (quoted : Bool) (value : List ℕ) (room : ℕ) → 6 * (length name + length value) + 27 ≤ room
    → length (cell_text row name quoted value) ≤ room
unfolding cell_text
cell_room row name quoted value room h = omega (
  arith,
  length-append (decimal row) (ascii "\t" ++ (write_string name ++ (ascii "\t" ++ (value_text quoted value ++ ascii "\n")))),
  length-append (write_string name) (ascii "\t" ++ (value_text quoted value ++ ascii "\n")),
  length-append (value_text quoted value) (ascii "\n"),
  decimal_length row,
  written_length name,
  value_length quoted value,
)

-- a value by whether it is a string
module _ {quoted : Bool} (s : List ℕ) {room o r : ℕ} {out new : List ℕ} where
  pub as_string : quoted ≡ true → Put (write_string s) room o r out new → Put (value_text quoted s) room o r out new
  unfolding value_text
  as_string e p = subst (λ (t : List ℕ). Put t room o r out new) (sym (pick_true _ _ _ e)) p

  pub as_it_stands : quoted ≡ false → Put s room o r out new → Put (value_text quoted s) room o r out new
  unfolding value_text
  as_it_stands e p = subst (λ (t : List ℕ). Put t room o r out new) (sym (pick_false _ _ _ e)) p
