use borrow.Author.Rules.{rules}
use mathlib.Core.Path.{refl}
use native.Mathlib.Omega.{arith}
use Rattle.command_sheets.specs.inner.Tables.{table_line}
use Rattle.command_sheets.proofs.Printing.{all_none, all_next, all_printed_lem}
use Rattle.command_sheets.proofs.list_cells.Goals as goal

pub loop-k-init : goal.loop-k-init
loop-k-init c =
    (refl, refl, omega arith, all_none (table_line c.args.columns c.args.text.now c.args.names.now c.args.cells.now c.args.store.now) c.fresh-p.result c.args.page.now c.args.shown.now)

pub loop-k-preserved : goal.loop-k-preserved
loop-k-preserved c =
    (search rules, search rules, omega (arith, c.loop-k-test.true), all_next (table_line c.args.columns c.args.text.now c.args.names.now c.args.cells.now c.args.store.now) c.fresh-p.result c.args.page.now c.args.shown.now c.loop-k.k c.loop-k.invariant.3 c.list_cell-p.ensures)

pub returns : goal.returns
returns c =
    all_printed_lem (table_line c.args.columns c.args.text.now c.args.names.now c.args.cells.now c.args.store.now) c.args.count c.loop-k.k c.args.terminal (omega (arith, c.loop-k-test.false)) c.loop-k.invariant.2 c.fresh-p.ensures c.loop-k.invariant.3 c.flush.ensures.1 c.outcome_of.ensures
