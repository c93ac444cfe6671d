-- As in add (Adding).
use Rattle.command_outputs.proofs.Adding.{cell_some, added_behind, added_anew}
use Rattle.command_outputs.proofs.pages.add_cell.Goals as goal

pub returns-then-p-at : goal.returns-then-p-at
returns-then-p-at c =
    added_behind c.args.p (cell_some c.args.row c.args.name.now c.args.quoted c.args.value.now) c.args.page.now c.args.shown.now c.put_cell-at.ensures c.if-p-at.true

pub returns : goal.returns
returns c =
    added_anew c.args.p (cell_some c.args.row c.args.name.now c.args.quoted c.args.value.now) c.args.page.now c.args.shown.now c.put_cell-at.ensures c.if-p-at.false _ c.flush-p.ensures.1 c.put_cell.ensures
