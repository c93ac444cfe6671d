-- What one call of a plan promises the others: this speaks of the code alone, and no rule cites it.
-- Assumes nothing.
use Rattle.std.specs.Prelude.{ℕ, ◌-◌, ◌≤◌, List, ◌≡◌, eqb, length, take, drop}
use Rattle.prelude.specs.Pick.{pick}
use Rattle.upload.specs.Calls.{Lent, Called}
use Rattle.j8_lines.specs.Lists.{feeds, finishes, call}

-- the call c of a plan, with the text fed up to `at`: its result, and where the next piece begins
pub record OneCall (text : List ℕ) (at c : ℕ) (m : Lent) (r : Called) (next : ℕ) : Type 0 where
  pub result : r ≡ call m (pick (eqb c 0) finishes (feeds (take (c - 1) (drop at text))))
  pub rest : drop next text ≡ pick (eqb c 0) (drop at text) (drop (c - 1) (drop at text))
  pub inside : next ≤ length text
