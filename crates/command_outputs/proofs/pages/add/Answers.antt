-- By whether the text fits behind what is there (Adding).
use Rattle.command_outputs.proofs.Adding.{form_some, added_behind, added_anew}
use Rattle.command_outputs.proofs.pages.add.Goals as goal

pub returns-then-p-at : goal.returns-then-p-at
returns-then-p-at c = added_behind c.args.p (form_some c.args.form c.args.n c.args.s.now) c.args.page.now c.args.shown.now c.put_form-at.ensures c.if-p-at.true

pub returns : goal.returns
returns c =
    added_anew c.args.p (form_some c.args.form c.args.n c.args.s.now) c.args.page.now c.args.shown.now c.put_form-at.ensures c.if-p-at.false _ c.flush-p.ensures.1 c.put_form.ensures
