-- By count and kind (Fitting).
use native.Mathlib.Omega.{arith}
use Rattle.json8_fit.specs.inner.Steps.{node_at}
use Rattle.json8_fit.proofs.Fitting.{fit_counts, fit_word, fit_number, fit_string}
use Rattle.json8_fit.proofs.fitness.is_leaf.Goals as goal

pub returns-then-table-i-ne1 : goal.returns-then-table-i-ne1
returns-then-table-i-ne1 c = fit_counts c.args.text.now c.args.store.now (node_at c.args.i c.args.table.now) c.if-table-i-ne1.true

pub returns-then-kind-lt3 : goal.returns-then-kind-lt3
returns-then-kind-lt3 c = fit_word c.args.text.now c.args.store.now (node_at c.args.i c.args.table.now) c.if-table-i-ne1.false c.if-kind-lt3.true

pub is_number-requires : goal.is_number-requires
is_number-requires c = (c.requires, omega (arith, c.if-kind-lt3.false))

pub returns-then-kind-lt5 : goal.returns-then-kind-lt5
returns-then-kind-lt5 c =
    fit_number c.args.text.now c.args.store.now (node_at c.args.i c.args.table.now) c.if-table-i-ne1.false c.if-kind-lt3.false c.if-kind-lt5.true c.is_number.ensures

pub returns : goal.returns
returns c = fit_string c.args.text.now c.args.store.now (node_at c.args.i c.args.table.now) c.if-table-i-ne1.false c.if-kind-lt5.false c.is_string.ensures
