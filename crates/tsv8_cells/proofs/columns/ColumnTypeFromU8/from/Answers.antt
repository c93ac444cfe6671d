-- Each test decides one pick of `type_by`.
use borrow.Author.Tests.{eq-eqb, ne_eqb, lt-ltb, le-ltb}
use Rattle.prelude.specs.Pick.{pick}
use Rattle.tsv8_cells.specs.inner.Typed.{type_by}
use Rattle.tsv8_cells.proofs.columns.ColumnTypeFromU8.from.Goals as goal

pub returns-then-number-gt3 : goal.returns-then-number-gt3
unfolding type_by pick
returns-then-number-gt3 c = rw (lt-ltb 3 _ c.if-number-gt3.true)

pub returns-then-number-eq1 : goal.returns-then-number-eq1
unfolding type_by pick
returns-then-number-eq1 c = rw (le-ltb 3 _ c.if-number-gt3.false, eq-eqb _ 1 c.if-number-eq1.true)

pub returns-then-number-eq2 : goal.returns-then-number-eq2
unfolding type_by pick
returns-then-number-eq2 c = rw (le-ltb 3 _ c.if-number-gt3.false, ne_eqb _ 1 c.if-number-eq1.false, eq-eqb _ 2 c.if-number-eq2.true)

pub returns : goal.returns
unfolding type_by pick
returns c = rw (le-ltb 3 _ c.if-number-gt3.false, ne_eqb _ 1 c.if-number-eq1.false, ne_eqb _ 2 c.if-number-eq2.false)
