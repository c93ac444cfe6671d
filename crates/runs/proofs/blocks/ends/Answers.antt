-- A control, the backslash and the closing quote are no part of a literal character (BlockLaws).
use mathlib.Core.Bool.{Bool, true, false}
use mathlib.Core.Path.{◌≡◌}
use native.Mathlib.Omega.{arith}
use Rattle.prelude.proofs.Cases.{never}
use Rattle.runs.proofs.BlockLaws.{stop_byte}
use Rattle.runs.proofs.blocks.ends.Goals as goal

pub returns-then-s-at : goal.returns-then-s-at
returns-then-s-at c = λ e. let u : ◌≡◌ {A = Bool} false true = e in never cc

pub returns : goal.returns
returns c = stop_byte c.args.style c.args.s.now c.args.at _ (omega arith) c.quote_of.ensures
