-- The tests say that the closing quote stands there and is the last byte.
use native.Mathlib.Omega.{arith}
use mathlib.Core.Path.{sym, ◌∙◌}
use borrow.Author.Tests.{eqb-true, eq-eqb}
use Rattle.prelude.proofs.Cases.{never}
use Rattle.strings.proofs.read.closes.Goals as goal

pub returns-then-s-e-ne1 : goal.returns-then-s-e-ne1
returns-then-s-e-ne1 c = ((λ e. never (cc)), λ k. absurd (c.if-s-e-ne1.true (omega (arith, k.last))))

pub returns : goal.returns
returns c = ((λ e. record { last = omega arith; ends = eqb-true _ _ e ∙ c.quote_of.ensures }), λ k. eq-eqb _ _ (k.ends ∙ sym c.quote_of.ensures))
