-- A digit begins a number; otherwise the first byte names the value.
use native.Mathlib.Omega.{arith}
use mathlib.Core.Path.{sym, ◌∙◌}
use Rattle.json8_leaves.proofs.Choices.{kind_digit, kind_name}
use Rattle.json8_leaves.proofs.quoted.short_kind.Goals as goal

pub returns-then-is_digit : goal.returns-then-is_digit
returns-then-is_digit c = (kind_digit c.args.x (sym c.is_digit.ensures ∙ c.if-is_digit.true), omega arith)

pub returns : goal.returns
returns c = (kind_name c.args.x _ (sym c.is_digit.ensures ∙ c.if-is_digit.false) c.name_kind.ensures.0, omega (arith, c.name_kind.ensures.1))
