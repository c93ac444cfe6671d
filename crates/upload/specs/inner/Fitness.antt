-- What the functions that take a piece ask of each other: this speaks of the code alone, and no rule cites it.
-- Assumes nothing.
use Rattle.std.specs.Prelude.{◌≤◌, length}
use Rattle.prelude.specs.Limits.{upload_max, line_max}
use Rattle.upload.specs.Calls.{Lent}

-- the tests of `fit_lent`, passed
pub record Fit (m : Lent) : Type 0 where
  pub held : m.state.held ≤ line_max
  pub taken : m.state.taken ≤ upload_max
  pub lfs : m.state.lfs ≤ m.state.taken
  pub used : m.state.used ≤ length m.out
  pub large : line_max ≤ length m.line
