-- By the three first letters.
use native.Mathlib.Omega.{arith}
use mathlib.Core.Path.{refl}
use borrow.Author.Tests.{ne_eqb}
use Rattle.prelude.specs.Pick.{pick}
use Rattle.tokens.specs.inner.Parts.{name_kind}
use Rattle.json8_leaves.proofs.leaves.name_kind.Goals as goal

pub returns-then-x-eq116 : goal.returns-then-x-eq116
unfolding name_kind pick
returns-then-x-eq116 c = (rw c.if-x-eq116.true refl, omega arith)

pub returns-then-x-eq102 : goal.returns-then-x-eq102
unfolding name_kind pick
returns-then-x-eq102 c = (rw c.if-x-eq102.true refl, omega arith)

pub returns : goal.returns
unfolding name_kind pick
returns c = (rw (ne_eqb _ 0x74 c.if-x-eq116.false, ne_eqb _ 0x66 c.if-x-eq102.false) refl, omega arith)
