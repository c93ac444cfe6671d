use mathlib.Core.Path.{refl, sym, ◌∙◌}
use native.Mathlib.Omega.{arith}
use Rattle.tsv8_cells.proofs.Numerals.{digit_more, digit_stop, digit_end}
use Rattle.tsv8_cells.proofs.cells.all_digits.Goals as goal

pub loop-i-init : goal.loop-i-init
loop-i-init c = (omega arith, refl)

pub returns-then-not-is_digit : goal.returns-then-not-is_digit
returns-then-not-is_digit c = digit_stop _ _ c.loop-i.invariant.1 c.loop-i-test.true (sym c.is_digit.ensures ∙ c.if-not-is_digit.true)

pub loop-i-preserved : goal.loop-i-preserved
loop-i-preserved c = (omega arith, digit_more _ _ c.loop-i.invariant.1 c.loop-i-test.true (sym c.is_digit.ensures ∙ c.if-not-is_digit.false))

pub returns : goal.returns
returns c = digit_end _ _ c.loop-i.invariant.1 c.loop-i-test.false
