-- What the code's readers of tokens promise each other: these speak of the code alone, and no rule cites them.
-- Assumes nothing.
use Rattle.std.specs.Prelude.{ℕ, ◌+◌, ◌≤◌, false, Some, List, ◌≡◌, eqb, length, get_or, drop}
use Rattle.prelude.specs.Pick.{pick}
use Rattle.tokens.specs.declared.starts.Start.TheVariants.{Word as WordStart}
use Rattle.tokens.specs.Words.{is_word, word_of, word_value}
use Rattle.tokens.specs.Starts.{start_of}
use Rattle.tokens.specs.Numbers.{number_from}

-- behind the place r, the next part of the grammar answers what an earlier part does at a place.
pub record Leads (part next : List ℕ → ℕ) (s : List ℕ) (at r : ℕ) : Type 0 where
  pub inside : r ≤ length s
  pub same : number_from next r (drop r s) ≡ number_from part at (drop at s)

-- three bytes stand k bytes behind the head, and no word goes on behind them
pub record Spelt (s : List ℕ) (k a b c : ℕ) : Type 0 where
  pub first : get_or s k 0 ≡ a
  pub second : get_or s (k + 1) 0 ≡ b
  pub third : get_or s (k + 2) 0 ≡ c
  pub over : is_word (get_or s (k + 3) 0) ≡ false

-- the kind of the value whose name begins with a byte
unfoldable pub name_kind : ℕ → ℕ
name_kind x = pick (eqb x 0x74) 2 (pick (eqb x 0x66) 1 0)

-- a word of so many bytes that begins with a byte and names a value
pub record Named (s : List ℕ) (x len : ℕ) : Type 0 where
  pub value : word_value (word_of s) ≡ Some (name_kind x)
  pub long : length (word_of s) ≡ len
  pub start : start_of s ≡ WordStart
