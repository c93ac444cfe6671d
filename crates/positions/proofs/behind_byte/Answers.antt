-- By the byte (Reading).
use mathlib.Core.Path.{sym, ◌∙◌}
use native.Mathlib.Omega.{arith}
use Rattle.positions.proofs.Reading.{behind_end, behind_tail, behind_head}
use Rattle.positions.proofs.behind_byte.Goals as goal

pub returns-then-x-eq10 : goal.returns-then-x-eq10
returns-then-x-eq10 c = record { value = behind_end _ _ c.if-x-eq10.true; line_bound = (omega arith, omega arith) }

pub returns-then-in_range : goal.returns-then-in_range
returns-then-in_range c = record { value = behind_tail _ _ c.if-x-eq10.false (sym c.in_range.ensures ∙ c.if-in_range.true); line_bound = (omega arith, omega arith) }

pub returns : goal.returns
returns c = record { value = behind_head _ _ c.if-x-eq10.false (sym c.in_range.ensures ∙ c.if-in_range.false); line_bound = (omega arith, omega arith) }
