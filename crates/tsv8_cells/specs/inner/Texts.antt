-- What the code's readers of stripped texts promise each other: this speaks of the code alone, and no rule cites it.
-- Assumes nothing.
use Rattle.std.specs.Prelude.{ℕ, ◌+◌, ◌≤◌, ◌<◌, true, false, List, ◌≡◌, Result, Ok, Err, length, get_or}
use Rattle.prelude.specs.declared.refusals.Refused.{Refused}
use Rattle.eights.specs.inner.Words.{is_odd}
use Rattle.notation.specs.declared.styles.Style.{Style}
use Rattle.notation.specs.Marks.{opens, unopened, opening}
use Rattle.strings.specs.Read.{accepted, read_token}
use Rattle.lines.specs.Line.{holds, faulty, read_stripped}
use Rattle.json8.specs.Leaves.{slashed}
use Rattle.tsv8_cells.specs.declared.cells.Text.{Text}
use Rattle.tsv8_cells.specs.declared.cells.Text.TheVariants.{Bare, Plain, Slashed}

abbrev pub AllPlain : List ℕ → Type 0
AllPlain w = (j : ℕ) → j < length w → is_odd (get_or w j 0) ≡ false

pub record BareText (w : List ℕ) : Type 0 where
  pub mark : opening w ≡ unopened
  pub same : read_stripped w ≡ holds 1 w

-- a string without a backslash, with a mark of k bytes
pub record PlainText (w : List ℕ) (k : ℕ) : Type 0 where
  pub style : Style
  pub mark : opening w ≡ opens style k
  pub clean : slashed w ≡ false
  pub kind : ℕ
  pub bytes : List ℕ
  pub same : read_stripped w ≡ holds kind bytes
  pub inside : k + 1 ≤ length w

-- a string with one, that denotes n bytes
pub record SlashedText (w : List ℕ) (n : ℕ) : Type 0 where
  pub style : Style
  pub from : ℕ
  pub mark : opening w ≡ opens style from
  pub escaped : slashed w ≡ true
  pub kind : ℕ
  pub bytes : List ℕ
  pub same : read_stripped w ≡ holds kind bytes
  pub end : ℕ
  pub token : read_token w ≡ accepted bytes end
  pub count : length bytes ≡ n
  pub inside : n ≤ length w

abbrev pub IsTextBy : List ℕ → Result Text Refused → Type 0
IsTextBy w (Ok Bare) = BareText w
IsTextBy w (Ok (Plain k)) = PlainText w k
IsTextBy w (Ok (Slashed n)) = SlashedText w n
IsTextBy w (Err f) = read_stripped w ≡ faulty f.refusal f.place

pub record IsText (w : List ℕ) (r : Result Text Refused) : Type 0 where
  pub so : IsTextBy w r
